use Rattle.text.specs.Line.{numbered}
use Rattle.text.proofs.RoomLaws.{put_then}
use Rattle.text.proofs.line.numbered.Goals as goal

pub returns : goal.returns
unfolding numbered
returns c = put_then _ _ _ _ c.put-next.ensures c.decimal.ensures
