use Rattle.text.proofs.RoomLaws.{put_then}
use Rattle.showcheck_output.specs.Findings.{refused_text}
use Rattle.showcheck_output.proofs.LengthLaws.{refused-length}
use Rattle.showcheck_output.proofs.refused.put_refused.Goals as goal

-- a lemma's facts, as the clauses have names
named2 : {A B R : Type 0} → (A → B → R) → A × B → R
named2 f h = f h.0 h.1

pub returns : goal.returns
unfolding refused_text
returns c = let a = c.args in
    let s = c.put_shown-next.ensures in
    named2 (λ h0 h1. record { room_after = h0; fits = h1 }) ((
      put_then _ _ _ _ (put_then _ _ _ _ s.room_after c.put_said-next.ensures) c.put_unanswered.ensures,
      refused-length _ _ _ _ _ a.p s.fits,
    ))
