use native.Mathlib.Omega.{arith}
use Rattle.text.specs.Number.{ascii}
use borrow.Author.Tests.{eq-eqb, ne_eqb}
use Rattle.showcheck_output.specs.Given.{pointed_text}
use Rattle.showcheck_output.proofs.put_pointed.Goals as goal

-- a lemma's facts, as the clauses have names
named2 : {A B R : Type 0} → (A → B → R) → A × B → R
named2 f h = f h.0 h.1

pub returns-then-pointers-ne32 : goal.returns-then-pointers-ne32
unfolding pointed_text ascii
returns-then-pointers-ne32 c = named2 (λ h0 h1. record { room_after = h0; fits = h1 }) (rw (ne_eqb _ _ c.if-pointers-ne32.true) (c.put.ensures, omega arith))

pub returns : goal.returns
unfolding pointed_text
returns c = let s = c.put_stored.ensures in
    let e = c.pointers_in.ensures in
    named2 (λ h0 h1. record { room_after = h0; fits = h1 }) (rw (eq-eqb _ _ c.if-pointers-ne32.false) (rw e at s.room_after, rw e at s.fits))
