use mathlib.Core.Path.{ap, ◌∙◌}
use Rattle.head.specs.SserialExports.{exported, export_unpack}
use Rattle.head.proofs.SserialExportLaws.{numbered, no_call, call_by}
use Rattle.head.proofs.sserial_exports.head_unpack.Goals as goal

pub returns-then-direction-gt1 : goal.returns-then-direction-gt1
unfolding export_unpack
returns-then-direction-gt1 c = rw (no_call _ _ _ _ c.if-direction-gt1.true) (numbered _ c.table_or_40.ensures)

pub returns : goal.returns
unfolding exported export_unpack
returns c = rw
    (call_by _ _ _ _ c.if-direction-gt1.false _ c.direction_of-d.ensures)
    (numbered _ c.call_number.ensures ∙ ap exported c.unpack.ensures)
