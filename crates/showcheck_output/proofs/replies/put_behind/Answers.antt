use native.Mathlib.Omega.{arith}
use Rattle.showcheck_output.proofs.FindingLaws.{end-within, front_bytes_lem}
use Rattle.showcheck_output.proofs.replies.put_behind.Goals as goal

pub slice_bounds-put_both-end : goal.slice_bounds-put_both-end
slice_bounds-put_both-end c = let w = end-within c.args.behind.now in
    omega (arith, c.frame_end-end.ensures)

pub returns : goal.returns
returns c = let s = c.args.behind.now in
    rw (front_bytes_lem s c.frame_end-end.ensures c.least-start.ensures) at c.put_both.ensures
