use native.Mathlib.Omega.{arith}
use Rattle.text.specs.Number.{ascii}
use borrow.Author.Tests.{lt-ltb, le-ltb}
use Rattle.text.specs.Line.{too_long_line}
use Rattle.showcheck_output.specs.Findings.{recording_text}
use Rattle.showcheck_output.proofs.put_recording.Goals as goal

-- a lemma's facts, as the clauses have names
named2 : {A B R : Type 0} → (A → B → R) → A × B → R
named2 f h = f h.0 h.1

pub returns-then-recording-gt-MOST : goal.returns-then-recording-gt-MOST
unfolding recording_text too_long_line ascii
returns-then-recording-gt-MOST c =
    named2 (λ h0 h1. record { room_after = h0; fits = h1 }) (rw (lt-ltb _ _ c.if-recording-gt-MOST.true) (c.too_long.ensures, omega arith))

pub returns : goal.returns
unfolding recording_text
returns c = named2 (λ h0 h1. record { room_after = h0; fits = h1 })
    (rw (le-ltb _ _ c.if-recording-gt-MOST.false) (c.put_judged.ensures.room_after, c.put_judged.ensures.fits))
