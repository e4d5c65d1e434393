use native.Mathlib.Omega.{arith}
use Rattle.text.specs.Number.{ascii}
use Rattle.showcheck_output.specs.Input.{pcapng_text, input_text}
use Rattle.showcheck_output.proofs.put_input.Goals as goal

-- a lemma's facts, as the clauses have names
named2 : {A B R : Type 0} → (A → B → R) → A × B → R
named2 f h = f h.0 h.1

pub returns-then-is_pcapng : goal.returns-then-is_pcapng
unfolding input_text pcapng_text ascii
returns-then-is_pcapng c = let n = c.first_number-n.ensures in
    named2 (λ h0 h1. record { room_after = h0; fits = h1 }) (rw (← n, ← c.is_pcapng.ensures, c.if-is_pcapng.true) (c.put_pcapng.ensures, omega arith))

pub returns-then-is_capture : goal.returns-then-is_capture
unfolding input_text
returns-then-is_capture c = let n = c.first_number-n.ensures in
    named2 (λ h0 h1. record { room_after = h0; fits = h1 })
    (rw (← n, ← c.is_pcapng.ensures, c.if-is_pcapng.false, ← c.is_capture.ensures, c.if-is_capture.true)
    (c.put_capture.ensures.room_after, c.put_capture.ensures.fits))

pub returns : goal.returns
unfolding input_text
returns c = let n = c.first_number-n.ensures in
    named2 (λ h0 h1. record { room_after = h0; fits = h1 })
    (rw (← n, ← c.is_pcapng.ensures, c.if-is_pcapng.false, ← c.is_capture.ensures, c.if-is_capture.false)
    (c.put_recording.ensures.room_after, c.put_recording.ensures.fits))
