use mathlib.Core.Path.{◌∙◌}
use native.Mathlib.Omega.{arith}
use Rattle.text.specs.Number.{ascii}
use Rattle.text.proofs.RoomLaws.{put_front}
use Rattle.cuefix_output.specs.Account.{kept_line}
use Rattle.cuefix_output.proofs.AccountLaws.{kept-fits}
use Rattle.cuefix_output.proofs.lines.kept.Goals as goal

pub returns : goal.returns
unfolding ascii kept_line
returns c = let a = c.args in
    c.pair.ensures ∙ put_front _ _ (omega (arith, kept-fits a.records a.bytes (omega arith) (omega arith)))
