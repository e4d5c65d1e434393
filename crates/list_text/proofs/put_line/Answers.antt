use Rattle.text.specs.Number.{ascii}
use Rattle.text.proofs.RoomLaws.{put_then}
use Rattle.list_text.proofs.WriteLaws.{read-line_is, write-line_is}
use Rattle.list_text.proofs.put_line.Goals as goal

pub put_value-at-requires : goal.put_value-at-requires
put_value-at-requires c = c.requires.1

pub returns-then-r : goal.returns-then-r
unfolding ascii
returns-then-r c = rw (write-line_is _ _ c.requires.0 c.if-r.true) at
    (put_then _ _ _ _ (put_then _ _ _ _ c.put_front-at.ensures c.put_value-at.ensures) c.put.ensures)

pub returns : goal.returns
unfolding ascii
returns c = rw (read-line_is _ _ c.requires.0 c.if-r.false) at (put_then _ _ _ _ c.put_front-at.ensures c.put-2.ensures)
