use Rattle.packet.specs.Bytes.{bytes_of}
use Rattle.planner.specs.Inside.{framed_command}
use Rattle.planner.proofs.one_cell.put_command.Goals as goal

pub returns : goal.returns
unfolding framed_command bytes_of
returns c = rw (c.copy_from_slice.ensures.after, c.to_le_bytes-w.ensures, c.to_le_bytes-a.ensures)
