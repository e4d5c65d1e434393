use mathlib.Core.Path.{sym, ap, ◌∙◌}
use lib.Seq.{sets, length-take-le}
use Rattle.text.proofs.RoomLaws.{put-room}
use Rattle.salvage.proofs.WriteLaws.{record_kept, record_none}
use Rattle.salvage.proofs.write.put_record.Goals as goal

pub slice_bounds-put-end : goal.slice_bounds-put-end
slice_bounds-put-end c = sym (length-take-le _ _ c.requires.0)

pub returns-then-s : goal.returns-then-s
returns-then-s c = put-room _ _ _ c.put.ensures
    ∙ ap (sets _ _) (sym (record_kept _ _ c.if-s.true))

pub returns-else-s : goal.returns-else-s
returns-else-s c = ap (sets _ _) (sym (record_none _ _ c.if-s.false))
