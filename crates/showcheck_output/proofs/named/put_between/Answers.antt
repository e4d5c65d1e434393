use native.Mathlib.Omega.{arith}
use Rattle.text.proofs.RoomLaws.{put_then}
use Rattle.showcheck_output.specs.Findings.{between}
use Rattle.showcheck_output.proofs.LengthLaws.{between-length}
use Rattle.showcheck_output.proofs.named.put_between.Goals as goal

-- a lemma's facts, as the clauses have names
named2 : {A B R : Type 0} → (A → B → R) → A × B → R
named2 f h = f h.0 h.1

pub returns : goal.returns
unfolding between
returns c = named2 (λ h0 h1. record { room_after = h0; within = h1 }) ((
  put_then _ _ _ _ c.numbered-next.ensures c.put.ensures,
  between-length _ _ c.args.n (omega (arith, c.ranges.n)),
))
