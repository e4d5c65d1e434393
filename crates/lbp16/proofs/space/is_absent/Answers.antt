use mathlib.Core.Path.{sym}
use Rattle.lbp16.proofs.SpaceLaws.{absent_bytes}
use Rattle.lbp16.proofs.space.is_absent.Goals as goal

pub returns : goal.returns
returns c = rw c.row_of.ensures (sym (absent_bytes _))
