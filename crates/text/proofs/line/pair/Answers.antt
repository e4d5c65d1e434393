use Rattle.text.specs.Number.{ascii}
use Rattle.text.specs.Line.{pair_line}
use Rattle.text.proofs.RoomLaws.{put_then}
use Rattle.text.proofs.line.pair.Goals as goal

pub returns : goal.returns
unfolding pair_line ascii
returns c = put_then _ _ _ _ (put_then _ _ _ _ c.numbered-next.ensures c.numbered-next-2.ensures) c.put.ensures
