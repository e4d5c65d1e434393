use native.Mathlib.Omega.{arith}
use Rattle.text.specs.Number.{ascii}
use borrow.Author.Tests.{lt-ltb}
use Rattle.text.specs.Line.{too_long_line}
use Rattle.showcheck_output.specs.Input.{capture_text}
use Rattle.showcheck_output.proofs.heard.put_capture.Goals as goal

-- a lemma's facts, as the clauses have names
named2 : {A B R : Type 0} → (A → B → R) → A × B → R
named2 f h = f h.0 h.1

pub returns-then-capture-gt-MOST : goal.returns-then-capture-gt-MOST
unfolding capture_text too_long_line ascii
returns-then-capture-gt-MOST c =
    named2 (λ h0 h1. record { room_after = h0; fits = h1 }) (rw (lt-ltb _ _ c.if-capture-gt-MOST.true) (c.too_long.ensures, omega arith))
