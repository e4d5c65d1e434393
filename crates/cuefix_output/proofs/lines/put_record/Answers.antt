use Rattle.text.specs.Number.{ascii}
use Rattle.text.proofs.RoomLaws.{put_then}
use Rattle.cuefix_output.specs.Account.{record_line}
use Rattle.cuefix_output.proofs.lines.put_record.Goals as goal

pub returns : goal.returns
unfolding record_line ascii
returns c = put_then _ _ _ _
    (put_then _ _ _ _ (put_then _ _ _ _ c.numbered-next.ensures c.put-next.ensures) c.bytes-next.ensures)
    c.put.ensures
