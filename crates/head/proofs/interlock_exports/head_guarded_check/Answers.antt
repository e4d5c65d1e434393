use Rattle.head.specs.InterlockExports.{export_guarded_check}
use Rattle.head.proofs.ExportLaws.{check-left}
use Rattle.head.proofs.ListingLaws.{verdict_numbers}
use Rattle.head.proofs.interlock_exports.head_guarded_check.Goals as goal

pub returns : goal.returns
unfolding export_guarded_check
returns c = check-left _ _ _ c.check.ensures (verdict_numbers _ c.numbers_of-given.ensures)
