use mathlib.Core.Path.{sym}
use native.Mathlib.Omega.{arith}
use Rattle.capture.proofs.FileLaws.{frame-short, frame-long}
use Rattle.capture.proofs.file.frame_bytes.Goals as goal

pub returns-then-rest-n : goal.returns-then-rest-n
returns-then-rest-n c = record { whole = sym (frame-short _ _ _ c.number_in.ensures c.if-rest-n.true); header = tt }

pub returns-else-rest-n : goal.returns-else-rest-n
returns-else-rest-n c = record { whole = frame-long _ _ _ c.number_in.ensures c.if-rest-n.false; header = omega arith }
