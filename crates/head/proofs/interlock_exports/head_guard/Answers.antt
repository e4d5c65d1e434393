use Rattle.head.specs.InterlockExports.{export_guard}
use Rattle.head.proofs.ExportLaws.{check-left}
use Rattle.head.proofs.ListingLaws.{verdict_numbers}
use Rattle.head.proofs.interlock_exports.head_guard.Goals as goal

pub returns : goal.returns
unfolding export_guard
returns c = check-left _ _ _ c.guard.ensures (verdict_numbers _ c.numbers_of-given.ensures)
