use mathlib.Core.Path.{refl, sym, ◌∙◌}
use native.Mathlib.Omega.{arith}
use borrow.Author.Tests.{eq-eqb, ne_eqb}
use Rattle.capture.specs.Datagram.{type_at}
use Rattle.capture.proofs.datagram.type_at.Goals as goal

pub returns-then-pair_at-eq33024 : goal.returns-then-pair_at-eq33024
unfolding type_at
returns-then-pair_at-eq33024 c = (rw (eq-eqb _ _ (sym c.pair_at.ensures.0 ∙ c.if-pair_at-eq33024.true)) refl, omega arith)

pub returns-else-pair_at-eq33024 : goal.returns-else-pair_at-eq33024
unfolding type_at
returns-else-pair_at-eq33024 c = (rw (ne_eqb _ _ (λ z. c.if-pair_at-eq33024.false (c.pair_at.ensures.0 ∙ z))) refl, omega arith)
