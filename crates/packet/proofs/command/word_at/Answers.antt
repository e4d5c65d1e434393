use mathlib.Core.Path.{refl}
use borrow.Author.Tests.{lt-ltb, le-ltb}
use Rattle.packet.specs.Command.{fields_at}
use Rattle.packet.proofs.command.word_at.Goals as goal

pub returns-then-rest-lt2 : goal.returns-then-rest-lt2
unfolding fields_at
returns-then-rest-lt2 c = rw (lt-ltb _ _ c.if-rest-lt2.true) refl

pub returns-else-rest-lt2 : goal.returns-else-rest-lt2
unfolding fields_at
returns-else-rest-lt2 c = rw (le-ltb _ _ c.if-rest-lt2.false, c.pair.ensures) refl
