use native.Mathlib.Omega.{arith}
use Rattle.showcheck_output.proofs.HeardLaws.{rooms-put}
use Rattle.showcheck_output.proofs.heard.put_rooms.Goals as goal

-- a lemma's facts, as the clauses have names
named2 : {A B R : Type 0} → (A → B → R) → A × B → R
named2 f h = f h.0 h.1

pub returns : goal.returns
returns c = named2 (λ h0 h1. record { room_after = h0; fits = h1 })
    (rooms-put _ _ _ _ (omega arith) (omega arith) _ (omega (arith, c.requires)) _ (c.put_read.ensures.room_after, c.put_read.ensures.fits))
