use mathlib.Core.Path.{◌≡◌, refl, ◌∙◌}
use native.Mathlib.Omega.{arith}
use Rattle.text.specs.Number.{hexadecimal}
use Rattle.text.proofs.RoomLaws.{put-least, put-none, put-within}
use Rattle.text.proofs.HexLaws.{hex_put}
use Rattle.text.proofs.number.hex.Goals as goal

pub loop-k-init : goal.loop-k-init
loop-k-init c = (rw c.least-next.ensures (put-least _ _ _), refl, omega (arith, c.least-next.ensures))

pub loop-k-preserved : goal.loop-k-preserved
loop-k-preserved c = let l = c.loop-k.invariant in
    let w = put-within _ _ _ c.digit-next.ensures in
    (hex_put _ _ _ _ c.loop-k-test.true c.digit_at.ensures c.digit-next.ensures ∙ l.0, w.1 ∙ l.1, w.0)

pub returns : goal.returns
unfolding hexadecimal
returns c = let l = c.loop-k in
    let z : l.k ≡ 0 = omega (arith, c.loop-k-test.false) in
    put-none _ _ l.invariant.2 ∙ rw z at l.invariant.0
