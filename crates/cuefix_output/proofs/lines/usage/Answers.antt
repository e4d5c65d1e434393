use mathlib.Core.Path.{◌∙◌}
use native.Mathlib.Omega.{arith}
use Rattle.text.specs.Number.{ascii}
use Rattle.text.proofs.RoomLaws.{put_front}
use Rattle.cuefix_output.specs.Account.{usage_line}
use Rattle.cuefix_output.proofs.AccountLaws.{usage_fits}
use Rattle.cuefix_output.proofs.lines.usage.Goals as goal

pub returns : goal.returns
unfolding ascii usage_line
returns c = c.put.ensures ∙ put_front _ _ (omega (arith, usage_fits))
