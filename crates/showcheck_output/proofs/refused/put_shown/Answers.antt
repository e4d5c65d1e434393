use Rattle.text.specs.Number.{ascii}
use Rattle.text.proofs.RoomLaws.{put_then}
use Rattle.showcheck_output.specs.Findings.{shown_text}
use Rattle.showcheck_output.proofs.LengthLaws.{shown-length}
use Rattle.showcheck_output.proofs.refused.put_shown.Goals as goal

-- a lemma's facts, as the clauses have names
named2 : {A B R : Type 0} → (A → B → R) → A × B → R
named2 f h = f h.0 h.1

pub returns : goal.returns
unfolding shown_text ascii
returns c = let n = c.put_named-next.ensures in
    let b = c.put_bytes-next.ensures in
    named2 (λ h0 h1. record { room_after = h0; fits = h1 }) ((
      put_then _ _ _ _ (put_then _ _ _ _ (put_then _ _ _ _ n.room_after c.put-next.ensures) b.room_after) c.put.ensures,
      shown-length _ _ _ n.within b.fits,
    ))
