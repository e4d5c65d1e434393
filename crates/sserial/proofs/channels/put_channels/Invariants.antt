use Rattle.sserial.proofs.ChannelLaws.{Rows}
use Rattle.sserial.proofs.channels.put_channels.Given as goal

abbrev pub invariant-loop-i : goal.invariant-loop-i
invariant-loop-i l = Rows l.row-items l.initial.words l.words l.i
