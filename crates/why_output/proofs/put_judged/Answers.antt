use Rattle.text.proofs.RoomLaws.{put_then}
use Rattle.why_output.specs.Wording.{said, judged_text}
use Rattle.why_output.proofs.put_judged.Goals as goal

pub returns : goal.returns
unfolding said judged_text
returns c = put_then _ _ _ _ (rw c.explain-r.ensures.explained at c.say-next.ensures)
    (rw (c.uses_pointer.ensures, c.explain-r.ensures.explained) at c.put_state.ensures)
