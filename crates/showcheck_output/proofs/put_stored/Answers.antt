use native.Mathlib.Omega.{arith}
use Rattle.text.specs.Number.{ascii}
use borrow.Author.Tests.{eq-eqb, ne_eqb}
use Rattle.showcheck_output.specs.Given.{stored_text}
use Rattle.showcheck_output.proofs.put_stored.Goals as goal

-- a lemma's facts, as the clauses have names
named2 : {A B R : Type 0} → (A → B → R) → A × B → R
named2 f h = f h.0 h.1

pub returns-then-file-ne-STORE_BYTES : goal.returns-then-file-ne-STORE_BYTES
unfolding stored_text ascii
returns-then-file-ne-STORE_BYTES c =
    named2 (λ h0 h1. record { room_after = h0; fits = h1 }) (rw (ne_eqb _ _ c.if-file-ne-STORE_BYTES.true) (c.put.ensures, omega arith))

pub returns : goal.returns
unfolding stored_text
returns c = named2 (λ h0 h1. record { room_after = h0; fits = h1 })
    (rw (eq-eqb _ _ c.if-file-ne-STORE_BYTES.false) (c.put_from.ensures.room_after, c.put_from.ensures.fits))
