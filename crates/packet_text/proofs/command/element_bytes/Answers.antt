use mathlib.Core.Path.{refl}
use Rattle.packet_text.specs.Wording.{element_bytes}
use Rattle.std.proofs.lemmas.Bool.Decides.{nat_tests}
use native.Mathlib.Omega.{arith}
use Rattle.packet_text.proofs.command.element_bytes.Goals as goal

pub returns-in-0 : goal.returns-in-0
unfolding element_bytes
returns-in-0 c = rw c.in-0.is refl

pub returns-in-1 : goal.returns-in-1
unfolding element_bytes
returns-in-1 c = rw c.in-1.is refl

pub returns-in-2 : goal.returns-in-2
unfolding element_bytes
returns-in-2 c = rw c.in-2.is refl

pub returns-in_default : goal.returns-in_default
unfolding element_bytes
returns-in_default c = grind (arith, nat_tests)
