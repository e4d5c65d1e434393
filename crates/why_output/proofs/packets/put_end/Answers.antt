use Rattle.text.proofs.RoomLaws.{put_then}
use Rattle.why_output.proofs.packets.put_end.Goals as goal

pub returns : goal.returns
returns c = put_then _ _ _ _ c.put_all-at.ensures c.put_state.ensures
