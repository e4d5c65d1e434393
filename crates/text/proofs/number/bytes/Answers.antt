use mathlib.Core.Path.{refl, ◌∙◌}
use native.Mathlib.Omega.{arith}
use lib.ListN.{drop_of_length-le}
use Rattle.text.specs.Number.{bytes_of_hex}
use Rattle.text.proofs.RoomLaws.{put-least, put-none, put-within}
use Rattle.text.proofs.HexLaws.{bytes-put}
use Rattle.text.proofs.number.bytes.Goals as goal

pub loop-b-init : goal.loop-b-init
loop-b-init c = (rw c.least-next.ensures (put-least _ _ _), refl, omega (arith, c.least-next.ensures))

pub loop-b-preserved : goal.loop-b-preserved
loop-b-preserved c = let l = c.loop-b.invariant in
    let w = put-within _ _ _ c.byte-next.ensures in
    (bytes-put _ _ _ _ c.loop-b-test.true c.byte-next.ensures ∙ l.0, w.1 ∙ l.1, w.0)

pub returns : goal.returns
unfolding bytes_of_hex
returns c = let l = c.loop-b.invariant in
    put-none _ _ l.2 ∙ rw (drop_of_length-le _ c.loop-b-test.false) at l.0
