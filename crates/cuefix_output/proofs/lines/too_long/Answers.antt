use mathlib.Core.Path.{◌∙◌}
use native.Mathlib.Omega.{arith}
use Rattle.text.proofs.RoomLaws.{put_front}
use Rattle.cuefix_output.proofs.AccountLaws.{too_long-fits}
use Rattle.cuefix_output.proofs.lines.too_long.Goals as goal

pub returns : goal.returns
returns c = c.too_long.ensures ∙ put_front _ _ (omega (arith, too_long-fits))
