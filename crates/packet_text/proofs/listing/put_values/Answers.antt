use borrow.Author.Rules.{rules}
use mathlib.Core.Path.{◌≡◌, refl, ◌∙◌}
use Prim.Native.Nat.{◌+◌, ◌-◌, ◌<◌}
use native.Mathlib.Omega.{arith}
use Rattle.text.proofs.RoomLaws.{put-least, put-none, put-within}
use Rattle.packet_text.specs.Packet.{values_text}
use Rattle.packet_text.proofs.ListingLaws.{values-put}
use Rattle.packet_text.proofs.listing.put_values.Goals as goal

pub loop-init : goal.loop-init
loop-init c = let z : c.args.count - 0 ≡ c.args.count = omega arith in
    (rw (z, c.least-next.ensures) (put-least _ _ _), refl, omega (arith, c.least-next.ensures), search rules)

pub loop-preserved : goal.loop-preserved
loop-preserved c = let l = c.loop.invariant in
    let n = c.width-n.ensures in
    let t : 0 < c.args.count - c.loop.counter = omega (arith, c.loop-test.true) in
    let e : c.args.count - (c.loop.counter + 1) ≡ c.args.count - c.loop.counter - 1 = omega arith in
    let far = l.3 in
    let few = n.1 in
    let w = put-within _ _ _ c.put_value-next.ensures in
    (rw (e, n.0) (values-put _ _ _ _ _ _ t c.put_value-next.ensures) ∙ l.0, w.1 ∙ l.1, w.0, omega arith)

pub returns : goal.returns
unfolding values_text
returns c = let l = c.loop in
    let z : c.args.count - l.counter ≡ 0 = omega (arith, c.loop-test.false) in
    put-none _ _ l.invariant.2 ∙ rw z at l.invariant.0
