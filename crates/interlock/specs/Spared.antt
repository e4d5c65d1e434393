-- Spared for ever: whatever is sent to a guarded card, every protected byte stays as it is.
use Rattle.std.specs.Prelude.{ℕ, ◌≡◌, List, [], ◌∷◌, length, get_or}
use Rattle.interlock.specs.Guard.{IsProtected}
use Rattle.interlock.specs.Guarded.{guarded_run, guarded_burst}

-- What is sent: a packet's bytes with the reply room, or a burst's words with the answer room.
pub data Sent : Type 0 where
  packet : List ℕ → List ℕ → Sent
  burst : List ℕ → List ℕ → Sent

-- A card's store, and its pointers as a list.
pub record Card : Type 0 where
  pub store : List ℕ
  pub pointers : List ℕ

unfoldable pub after_one : List ℕ → Sent → Card → Card
after_one guard (packet bytes reply) card =
    let o = guarded_run guard bytes card.store card.pointers reply in
    record { store = o.store; pointers = o.pointers }
after_one guard (burst words room) card = record { store = (guarded_burst guard words card.store room).store; pointers = card.pointers }

-- the card after all that is sent, in order
unfoldable pub after_all : List ℕ → List Sent → Card → Card
after_all guard [] card = card
after_all guard (x ∷ xs) card = after_all guard xs (after_one guard x card)

-- every protected byte of a store is as it was
abbrev pub Spares : List ℕ → List ℕ → List ℕ → Type 0
Spares guard before after = (i : ℕ) → IsProtected guard i → get_or after i 0 ≡ get_or before i 0

-- and the store keeps its length
pub record Untouched (guard : List ℕ) (before after : Card) : Type 0 where
  pub bytes : length after.store ≡ length before.store
  pub same : Spares guard before.store after.store
