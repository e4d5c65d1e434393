use Rattle.text.specs.Number.{ascii}
use Rattle.text.proofs.RoomLaws.{put_then}
use Rattle.showcheck_output.specs.Findings.{bad_byte_text}
use Rattle.showcheck_output.proofs.LengthLaws.{bad-byte_length}
use Rattle.showcheck_output.proofs.replies.put_bad_byte.Goals as goal

-- a lemma's facts, as the clauses have names
named2 : {A B R : Type 0} → (A → B → R) → A × B → R
named2 f h = f h.0 h.1

pub returns : goal.returns
unfolding bad_byte_text ascii
returns c = let n = c.put_named-next.ensures in
    let b = c.put_between-next.ensures in
    named2 (λ h0 h1. record { room_after = h0; fits = h1 }) ((
      put_then _ _ _ _ (put_then _ _ _ _ n.room_after b.room_after) c.put_replies.ensures,
      bad-byte_length _ _ _ _ _ n.within b.within,
    ))
