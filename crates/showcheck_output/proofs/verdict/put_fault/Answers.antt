use native.Mathlib.Omega.{arith}
use lib.ListN.{length-append}
use Rattle.text.proofs.RoomLaws.{put_then}
use Rattle.showcheck_output.proofs.verdict.put_fault.Goals as goal

-- a lemma's facts, as the clauses have names
named2 : {A B R : Type 0} → (A → B → R) → A × B → R
named2 f h = f h.0 h.1

pub returns : goal.returns
returns c = let n = c.put_named-next.ensures in
    named2 (λ h0 h1. record { room_after = h0; within = h1 }) ((
      put_then _ _ _ _ n.room_after c.put.ensures,
      rw length-append (omega (arith, n.within)),
    ))
