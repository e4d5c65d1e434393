use Rattle.head.specs.InterlockExports.{export_guarded_list}
use Rattle.head.proofs.ExportLaws.{check-left}
use Rattle.head.proofs.ListingLaws.{verdict_numbers}
use Rattle.head.proofs.interlock_exports.head_guarded_list.Goals as goal

pub returns : goal.returns
unfolding export_guarded_list
returns c = check-left _ _ _ c.list.ensures (verdict_numbers _ c.numbers_of-given.ensures)
