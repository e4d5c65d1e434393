use Rattle.head.specs.SalvageExports.{export_salvage}
use Rattle.head.proofs.SalvageExportLaws.{salvage_left_lem}
use Rattle.head.proofs.ListingLaws.{salvage_numbers}
use Rattle.head.proofs.salvage_exports.head_salvage.Goals as goal

pub returns : goal.returns
unfolding export_salvage
returns c = salvage_left_lem _ _ _ _ _ c.salvage.ensures (salvage_numbers _ c.numbers_of-given.ensures)
