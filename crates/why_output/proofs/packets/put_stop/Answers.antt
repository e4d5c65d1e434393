use Rattle.text.specs.Number.{ascii}
use Rattle.text.proofs.RoomLaws.{put_then}
use Rattle.why_output.specs.Packets.{stop_text}
use Rattle.why_output.proofs.packets.put_stop.Goals as goal

pub returns-in-End : goal.returns-in-End
unfolding stop_text
returns-in-End c = rw c.in-End.is c.put_end.ensures

pub returns-in-Cut : goal.returns-in-Cut
unfolding stop_text ascii
returns-in-Cut c = rw c.in-Cut.is c.put_fault.ensures

pub returns-in-Unmarked : goal.returns-in-Unmarked
unfolding stop_text ascii
returns-in-Unmarked c = rw c.in-Unmarked.is c.put_fault-in-Unmarked.ensures

pub returns-in-Refused : goal.returns-in-Refused
unfolding stop_text
returns-in-Refused c = rw c.in-Refused.is
    (put_then _ _ _ _ (rw c.in_frame-packet.ensures at c.put_shown-at.ensures) (rw c.in_frame-packet.ensures at c.put_judged.ensures))
