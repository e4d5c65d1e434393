use Rattle.text.proofs.RoomLaws.{put_whole}
use Rattle.parts.proofs.take.put_front.Goals as goal

pub returns : goal.returns
returns c = put_whole _ _ c.put.ensures c.requires
