-- Packets run in order, each on the store and pointers that the one before left, with its own reply room.
use Rattle.std.specs.Prelude.{ℕ, suc, List, [], ◌∷◌, ◌++◌, Bool, true, false, ◌&&◌, take}
use Rattle.lbp16.specs.Answer.{Answer}
use Rattle.lbp16.specs.declared.pointer.Pointers.{Pointers}
use Rattle.card.specs.Run.{run_packet}

-- `replies`: the replies, each up to its answered length, joined in packet order
pub record Played : Type 0 where
  pub accepted : Bool
  pub replies : List ℕ
  pub store : List ℕ
  pub pointers : Pointers

unfoldable pub is_accepted : Answer → Bool
is_accepted (Answer.accepted values) = true
is_accepted (Answer.refused n place) = false

-- the answered length
unfoldable pub reply_length : Answer → ℕ
reply_length (Answer.accepted []) = 0
reply_length (Answer.accepted (n ∷ ns)) = n
reply_length (Answer.refused n place) = 0

unfoldable pub play : List (List ℕ) → (ℕ → List ℕ) → List ℕ → Pointers → Played
play [] rooms store p = record { accepted = true; replies = []; store = store; pointers = p }
play (packet ∷ rest) rooms store p =
    let o = run_packet packet store p (rooms 0) in
    let r = play rest (λ i. rooms (suc i)) o.store o.pointers in
    record {
      accepted = is_accepted o.answer && r.accepted;
      replies = take (reply_length o.answer) o.reply ++ r.replies;
      store = r.store;
      pointers = r.pointers;
    }
