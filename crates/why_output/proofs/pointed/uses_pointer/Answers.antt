use mathlib.Core.Path.{refl}
use native.Mathlib.Omega.{arith}
use borrow.Author.Tests.{ne_eqb, lt-ltb, le-ltb}
use Rattle.reason.specs.Reason.{reason_listed, unnamed}
use Rattle.why_output.specs.Pointed.{uses_pointer}
use Rattle.why_output.proofs.pointed.uses_pointer.Goals as goal

pub returns-in_default : goal.returns-in_default
unfolding uses_pointer reason_listed unnamed
returns-in_default c = rw c.in_default.is c.pointed_to.ensures

pub returns-then-r-lt3 : goal.returns-then-r-lt3
unfolding uses_pointer reason_listed
returns-then-r-lt3 c =
    let some = rw c.in-Some.is at c.requires in
    rw (c.in-Some.is, ne_eqb c.in-Some.r.number 0 (λ z. omega (arith, some)), lt-ltb c.in-Some.r.number 3 c.if-r-lt3.true) refl

pub returns : goal.returns
unfolding uses_pointer reason_listed
returns c =
    let some = rw c.in-Some.is at c.requires in
    rw (c.in-Some.is, ne_eqb c.in-Some.r.number 0 (λ z. omega (arith, some)), le-ltb c.in-Some.r.number 3 c.if-r-lt3.false) c.pointed_to-2.ensures
