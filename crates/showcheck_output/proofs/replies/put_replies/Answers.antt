use native.Mathlib.Omega.{arith}
use Rattle.showcheck_output.specs.Findings.{replies_text}
use Rattle.showcheck_output.proofs.FindingLaws.{end-within, behind-front}
use Rattle.showcheck_output.proofs.replies.put_replies.Goals as goal

pub slice_bounds-put_behind-count : goal.slice_bounds-put_behind-count
slice_bounds-put_behind-count c = let w = end-within c.args.rest.now in
    omega (arith, c.frame_end-n.ensures)

pub slice_bounds-put_behind-start : goal.slice_bounds-put_behind-start
slice_bounds-put_behind-start c = let w = end-within c.args.rest.now in
    omega (arith, c.frame_end-n.ensures)

pub returns : goal.returns
unfolding replies_text
returns c = rw (behind-front c.args.rest.now c.frame_end-n.ensures) at c.put_behind.ensures
