use Rattle.text.specs.Number.{ascii}
use Rattle.text.proofs.RoomLaws.{put_then}
use Rattle.why_output.proofs.put_bad.Goals as goal

pub returns : goal.returns
unfolding ascii
returns c = put_then _ _ _ _ c.numbered-at.ensures c.put.ensures
