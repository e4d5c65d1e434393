use mathlib.Core.Path.{refl, ◌∙◌}
use native.Mathlib.Omega.{arith}
use lib.ListN.{drop_of_length-le}
use Rattle.text.proofs.RoomLaws.{put-least, put-none, put-within}
use Rattle.cueasm_output.proofs.SentenceLaws.{shown-put}
use Rattle.cueasm_output.proofs.sentence.put_shown.Goals as goal

pub loop-b-init : goal.loop-b-init
loop-b-init c = (rw c.least-next.ensures (put-least _ _ _), refl, omega (arith, c.least-next.ensures))

pub loop-b-preserved : goal.loop-b-preserved
loop-b-preserved c = let l = c.loop-b.invariant in
    let p = rw c.shown.ensures at c.put-next.ensures in
    let w = put-within _ _ _ c.put-next.ensures in
    (shown-put _ _ _ _ c.loop-b-test.true p ∙ l.0, w.1 ∙ l.1, w.0)

pub shape_of-out : goal.shape_of-out
shape_of-out c = c.loop-b.invariant.1

pub returns : goal.returns
returns c = let l = c.loop-b.invariant in
    put-none _ _ l.2 ∙ rw (drop_of_length-le _ c.loop-b-test.false) at l.0
