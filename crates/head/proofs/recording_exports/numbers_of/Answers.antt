use Rattle.head.specs.RecordingExports.{judged_numbers}
use Rattle.head.proofs.recording_exports.numbers_of.Goals as goal

pub returns-in-Yes : goal.returns-in-Yes
unfolding judged_numbers
returns-in-Yes c = rw c.in-Yes.is

pub returns-in-Refused : goal.returns-in-Refused
unfolding judged_numbers
returns-in-Refused c = rw (c.in-Refused.is, c.number.ensures)

pub returns-in-BadPacket : goal.returns-in-BadPacket
unfolding judged_numbers
returns-in-BadPacket c = rw c.in-BadPacket.is

pub returns-in-BadLength : goal.returns-in-BadLength
unfolding judged_numbers
returns-in-BadLength c = rw c.in-BadLength.is

pub returns-in-BadByte : goal.returns-in-BadByte
unfolding judged_numbers
returns-in-BadByte c = rw c.in-BadByte.is

pub returns-in-Cut : goal.returns-in-Cut
unfolding judged_numbers
returns-in-Cut c = rw c.in-Cut.is

pub returns-in-Unmarked : goal.returns-in-Unmarked
unfolding judged_numbers
returns-in-Unmarked c = rw c.in-Unmarked.is
