use mathlib.Core.Path.{refl}
use borrow.Author.Tests.{lt-ltb, le-ltb}
use Rattle.packet_text.specs.Wording.{address_digits}
use Rattle.packet_text.proofs.command.address_digits.Goals as goal

pub returns-then-n-lt65536 : goal.returns-then-n-lt65536
unfolding address_digits
returns-then-n-lt65536 c = rw (lt-ltb _ 65536 c.if-n-lt65536.true) refl

pub returns-else-n-lt65536 : goal.returns-else-n-lt65536
unfolding address_digits
returns-else-n-lt65536 c = rw (le-ltb _ 65536 c.if-n-lt65536.false) refl
