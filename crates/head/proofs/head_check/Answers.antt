use Rattle.head.proofs.ExportLaws.{check-left}
use Rattle.head.specs.Exports.{export_check}
use Rattle.head.proofs.ListingLaws.{verdict_numbers}
use Rattle.head.proofs.head_check.Goals as goal

pub returns : goal.returns
unfolding export_check
returns c = check-left _ _ _ c.check_lent.ensures (verdict_numbers _ c.numbers_of-given.ensures)
