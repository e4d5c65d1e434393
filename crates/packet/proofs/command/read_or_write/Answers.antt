use Rattle.packet.proofs.ElementLaws.{which-write, which-read}
use Rattle.packet.proofs.command.read_or_write.Goals as goal

pub returns-then-f : goal.returns-then-f
returns-then-f c place = which-write _ place c.if-f.true

pub returns-else-f : goal.returns-else-f
returns-else-f c place = which-read _ place c.if-f.false
