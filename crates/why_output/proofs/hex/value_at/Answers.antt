use mathlib.Core.Path.{sym}
use Rattle.why_output.proofs.HexLaws.{past-digit}
use Rattle.why_output.proofs.hex.value_at.Goals as goal

pub returns-in_default : goal.returns-in_default
returns-in_default c = let h = c.in_default.ensures.lookup in sym (past-digit c.args.text.now c.args.i h.3)
