-- Two lists in either order: compiled apart, all packets of one run and then all of the other.
use Rattle.std.specs.Prelude.{ℕ, ◌+◌, ◌≤◌, ◌<◌, ◌≡◌, List, [], ◌∷◌, ◌++◌, true, false, ◌&&◌, length, take, get_or}
use Rattle.lbp16.specs.Answer.{Answer}
use Rattle.lbp16.specs.declared.pointer.Pointers.{Pointers}
use Rattle.packet.specs.Command.{limit}
use Rattle.card.specs.Run.{bad_state, unlock_cell, bytes_of_count}
use Rattle.cue.specs.Output.{frames, apart, output_of}
use Rattle.cue.specs.Compile.{compiled}
use Rattle.cue.specs.Play.{Played, play}
use Rattle.cue.specs.Demand3.{unlock_after, count_after}

-- These are the packets of a list: it is answered with no refusal in every room that can hold them, and wherever it is,
-- the answered bytes taken apart are these packets.
pub record CompilesTo (list : List ℕ) (packets : List (List ℕ)) : Type 0 where
  pub accepted : (room : List ℕ) → length (output_of packets) ≤ length room
      → (compiled list room).answer ≡ Answer.accepted (length (output_of packets) ∷ length packets ∷ [])
  pub left : (room : List ℕ) (bytes count : ℕ) → (compiled list room).answer ≡ Answer.accepted (bytes ∷ count ∷ [])
      → apart (take bytes (compiled list room).room) ≡ frames packets

-- All packets of one list run, then all of another on the store and pointers that those left.
pub record InTurn : Type 0 where
  pub one : Played
  pub other : Played

unfoldable pub in_turn : List (List ℕ) → List (List ℕ) → (ℕ → List ℕ) → (ℕ → List ℕ) → List ℕ → Pointers → InTurn
in_turn ps qs rooms more store p =
    let one = play ps rooms store p in
    record { one = one; other = play qs more one.store one.pointers }

-- The packets ps and then qs ran from `store` to `forth`; qs and then ps ran from the same store to `back`. Every packet is
-- accepted, all bytes of the two stores are equal, and each list reads the same values. As for the two cells that no list
-- names: the unlock cell is 0 if a packet ran, and the packet count rises by the number of all packets.
pub record SameEitherWay (ps qs : List (List ℕ)) (store : List ℕ) (forth back : InTurn) : Type 0 where
  pub accepted_forth : (forth.one.accepted && forth.other.accepted) ≡ true
  pub accepted-back : (back.one.accepted && back.other.accepted) ≡ true
  pub cells : forth.other.store ≡ back.other.store
  pub first-values : forth.one.replies ≡ back.other.replies
  pub second-values : forth.other.replies ≡ back.one.replies
  pub unlock : (i : ℕ) → unlock_cell ≤ i → i < unlock_cell + 2
      → get_or forth.other.store i 0 ≡ unlock_after (ps ++ qs) (get_or store i 0)
  pub count : bytes_of_count forth.other.store ≡ count_after (ps ++ qs) (bytes_of_count store)

-- Of two lists: from every state that refusal 1 does not turn away, with reply rooms of 1,472 bytes whatever they hold, their
-- packets do the same in either order. Pointers are not compared.
pub record EitherOrder (first second : List ℕ) : Type 0 where
  pub ps : List (List ℕ)
  pub qs : List (List ℕ)
  pub first-packets : CompilesTo first ps
  pub second-packets : CompilesTo second qs
  pub same : (store : List ℕ) (p : Pointers) (rooms : ℕ → ℕ → List ℕ) → bad_state store p ≡ false
      → ((k i : ℕ) → length (rooms k i) ≡ limit)
      → SameEitherWay ps qs store (in_turn ps qs (rooms 0) (rooms 1) store p) (in_turn qs ps (rooms 2) (rooms 3) store p)
