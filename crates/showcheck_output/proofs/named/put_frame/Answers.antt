use native.Mathlib.Omega.{arith}
use borrow.Author.Tests.{lt-ltb, le-ltb}
use Rattle.text.specs.Number.{ascii}
use Rattle.showcheck_output.specs.Findings.{frame_text}
use Rattle.showcheck_output.proofs.named.put_frame.Goals as goal

-- a lemma's facts, as the clauses have names
named2 : {A B R : Type 0} → (A → B → R) → A × B → R
named2 f h = f h.0 h.1

pub returns-then-frames-k : goal.returns-then-frames-k
unfolding frame_text ascii
returns-then-frames-k c = let h = le-ltb _ _ c.if-frames-k.true in
    named2 (λ h0 h1. record { room_after = h0; fits = h1 }) (rw h (c.put.ensures, omega arith))

pub overflow_cast-frames : goal.overflow_cast-frames
overflow_cast-frames c = omega (arith, c.type_inv.frames c.args.i)

pub returns : goal.returns
unfolding frame_text ascii
returns c = let h = lt-ltb _ _ c.if-frames-k.false in
    named2 (λ h0 h1. record { room_after = h0; fits = h1 }) (rw h (c.put_between.ensures.room_after, omega (arith, c.put_between.ensures.within)))
