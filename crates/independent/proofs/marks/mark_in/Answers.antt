use native.Mathlib.Omega.{arith}
use mathlib.Core.Path.{refl}
use borrow.Author.Tests.{ne_eqb}
use Rattle.independent.specs.Inside.{mark_in}
use Rattle.independent.proofs.marks.mark_in.Goals as goal

pub returns-in-0 : goal.returns-in-0
unfolding mark_in
returns-in-0 c = (rw c.in-0.is refl, omega arith)

pub returns-in-1 : goal.returns-in-1
unfolding mark_in
returns-in-1 c = (rw c.in-1.is refl, omega arith)

pub returns-in-2 : goal.returns-in-2
unfolding mark_in
returns-in-2 c = (rw c.in-2.is refl, omega arith)

pub returns-in_default : goal.returns-in_default
unfolding mark_in
returns-in_default c = (
  rw (ne_eqb c.args.slot 0 (λ e. omega arith), ne_eqb c.args.slot 1 (λ e. omega arith), ne_eqb c.args.slot 2 (λ e. omega arith)) refl,
  omega arith,
)
