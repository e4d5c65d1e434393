use Rattle.why_output.proofs.PacketsLaws.{ran-accepted, ran-refused}
use Rattle.why_output.proofs.packets.ran_at.Goals as goal

pub returns-in-Ok : goal.returns-in-Ok
returns-in-Ok c = ran-accepted _ _ _ _ _ (rw c.in_frame.ensures at c.run-ran.ensures.ran) _ c.in-Ok.is

pub returns-in-Err : goal.returns-in-Err
returns-in-Err c = ran-refused _ _ _ _ _ (rw c.in_frame.ensures at c.run-ran.ensures.ran) _ c.in-Err.is
