use native.Mathlib.Omega.{arith}
use Rattle.text.proofs.RoomLaws.{put_then}
use Rattle.showcheck_output.specs.Findings.{named}
use Rattle.showcheck_output.proofs.LengthLaws.{named-length}
use Rattle.showcheck_output.proofs.named.put_named.Goals as goal

-- a lemma's facts, as the clauses have names
named2 : {A B R : Type 0} → (A → B → R) → A × B → R
named2 f h = f h.0 h.1

pub returns : goal.returns
unfolding named
returns c = let n = c.numbered-next.ensures in
    named2 (λ h0 h1. record { room_after = h0; within = h1 }) ((
      put_then _ _ _ _ n c.put_frame.ensures.room_after,
      named-length _ _ c.args.n c.args.i (omega (arith, c.ranges.n)) c.put_frame.ensures.fits,
    ))
