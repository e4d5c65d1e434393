use native.Mathlib.Omega.{arith}
use Rattle.capture.proofs.WriteLaws.{head-put}
use Rattle.capture.proofs.write.put_head.Goals as goal

pub returns : goal.returns
returns c = head-put _ _ _ (omega arith)
