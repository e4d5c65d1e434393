use mathlib.Core.Path.{◌∙◌}
use native.Mathlib.Omega.{arith}
use Rattle.text.specs.Number.{ascii}
use Rattle.text.proofs.RoomLaws.{put_front}
use Rattle.cuefix_output.specs.Account.{skipped_line}
use Rattle.cuefix_output.proofs.AccountLaws.{skipped_fits}
use Rattle.cuefix_output.proofs.lines.skipped.Goals as goal

pub returns : goal.returns
unfolding ascii skipped_line
returns c = let a = c.args in
    c.pair.ensures ∙ put_front _ _ (omega (arith, skipped_fits a.start a.n (omega arith) (omega arith)))
