use mathlib.Core.Path.{refl}
use native.Mathlib.Omega.{arith}
use Rattle.parts.proofs.FitLaws.{answer-taken, answer-written, answer-front}
use Rattle.cuepipe_output.proofs.FeedLaws.{some-within, packet-said, packet-short, refusal-said, refusal-short}
use Rattle.cuepipe_output.proofs.call.Goals as goal

-- a lemma's facts, as the clauses have names
named2 : {A B R : Type 0} → (A → B → R) → A × B → R
named2 f h = f h.0 h.1

pub slice_bounds-packet-end : goal.slice_bounds-packet-end
slice_bounds-packet-end c = answer-written _ _ _ _ _ _ _ _ c.compile_part-done.ensures.compiled _ c.in-Ok.is

pub slice_bounds-put-end : goal.slice_bounds-put-end
slice_bounds-put-end c = answer-front _ _ _ _ _ _ _ _ c.compile_part-done.ensures.compiled _ c.in-Ok.is

pub returns-in-Ok : goal.returns-in-Ok
returns-in-Ok c = let e = c.compile_part-done.ensures.compiled in
    named2 (λ h0 h1. record { out_after = h0; within = h1 }) ((
      packet-said _ _ _ _ _ _ _ _ refl e _ _ _ _ _ _ c.in-Ok.is c.put.ensures c.some_taken.ensures,
      (some-within _ _ c.some_taken.ensures (answer-taken _ _ _ _ _ _ _ _ e), packet-short _ _ _ _ _ _ _ _ refl e _ _ _ _ _ c.in-Ok.is c.put.ensures (omega arith)),
    ))

pub returns-in-Err : goal.returns-in-Err
returns-in-Err c = let e = c.compile_part-done.ensures.compiled in
    named2 (λ h0 h1. record { out_after = h0; within = h1 }) ((
      refusal-said _ _ _ _ _ _ _ _ refl e _ _ _ _ _ _ c.number.ensures c.in-Err.is c.refused.ensures,
      (tt, refusal-short _ _ _ _ _ _ c.number.ensures (omega arith) c.refused.ensures),
    ))
