use Rattle.head.proofs.SserialExportLaws.{table-exported}
use Rattle.head.proofs.ListingLaws.{table_numbers}
use Rattle.head.proofs.sserial_exports.head_table.Goals as goal

pub returns : goal.returns
returns c = table-exported _ _ _ c.count_fields.ensures (table_numbers _ c.numbers_of-given.ensures)
