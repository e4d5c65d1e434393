-- What a caller of a part needs: no more is taken than the part has, and what is written stands in the room.
use Prim.Native.Nat.{ℕ, ◌≤◌}
use mathlib.Core.Path.{◌≡◌, sym, ap}
use mathlib.Core.List.{List, ◌++◌}
use mathlib.Core.Bool.{Bool, true, false, cond}
use native.Mathlib.Omega.{arith}
use lib.Dec.{ltb}
use lib.ListN.{length, take, length-append}
use lib.Seq.{length-take-le}
use Rattle.lbp16.specs.Answer.{Answer}
use Rattle.parts.specs.Taking.{Standing, going, ended, faulted, Taken, is_going, called, answer_by, answered}
use Rattle.parts.specs.State.{held_packing, state_of, bad_state}
use Rattle.cue.specs.Output.{frame_room}
use Rattle.parts.specs.Parts.{PartCall, untouched, leaves, part_of, part_left}
use Rattle.parts.specs.Promise.{bytes_written}
use Rattle.packet.specs.Verdict.{verdict_listed}
use Rattle.std.specs.Prelude.{Result, Ok}
use Rattle.lbp16.specs.declared.Refusal.{Refusal}
use Rattle.parts.proofs.KeepLaws.{call_le}

taken-least : {P : Type 0} (t : Taken P) (room : List ℕ) → bytes_written (answered t) ≤ length (t.out ++ room)
unfolding answered answer_by bytes_written
taken-least t room = go t.state.standing
  where
    go : (k : Standing) → bytes_written (answer_by k t.state.index (length t.out)) ≤ length (t.out ++ room)
    go going = rw length-append (omega arith)
    go ended = rw length-append (omega arith)
    go (faulted n) = omega arith

module _ (state part : List ℕ) (last : Bool) (room : List ℕ) where
  -- what holds of a call that is turned away and of one that is not holds of every call
  pub call-cases : (Q : PartCall → Type 0) → ((n i : ℕ) → Q (untouched (Answer.refused n i) state room))
      → ((g : Bool) → Q (leaves (called held_packing (state_of state) part last) g state room)) → Q (part_of state part last room)
  unfolding part_of
  call-cases Q a b = go (ltb (length room) frame_room) (bad_state state)
    where
      go : (s w : Bool)
          → Q (cond s (untouched (Answer.refused 26 frame_room) state room)
          (cond w (untouched (Answer.refused 1 0) state room)
          (leaves (called held_packing (state_of state) part last) (is_going (state_of state).standing) state room)))
      go true w = a 26 frame_room
      go false true = a 1 0
      go false false = b (is_going (state_of state).standing)

  taken-fits : (part_of state part last room).taken ≤ length part
  unfolding untouched leaves
  taken-fits =
      call-cases (λ c. c.taken ≤ length part) (λ n i. omega arith) (λ g. call_le held_packing (state_of state) part last)

  written-fits : bytes_written (part_of state part last room).answer ≤ length (part_of state part last room).room
  unfolding untouched leaves bytes_written
  written-fits =
      call-cases (λ c. bytes_written c.answer ≤ length c.room) (λ n i. omega arith)
      (λ g. taken-least (called held_packing (state_of state) part last).left _)

  -- the same of what the code answered and left
  module _ (a : Result ℕ Refusal) (n : ℕ) (state₂ room₂ : List ℕ) (e : part_left a n state₂ room₂ ≡ part_of state part last room) where
    pub answer-taken : n ≤ length part
    unfolding part_left
    answer-taken = let t : n ≡ (part_of state part last room).taken = ap (λ c. c.taken) e in rw t taken-fits

    pub answer-written : (m : ℕ) → a ≡ Ok m → m ≤ length room₂
    unfolding part_left verdict_listed bytes_written
    answer-written m d =
        let l : bytes_written (verdict_listed a) ≤ length room₂ = rw e' at written-fits in
        rw d at l
      where
        e' : part_of state part last room ≡ part_left a n state₂ room₂
        e' = sym e

    pub answer-front : (m : ℕ) → a ≡ Ok m → m ≡ length (take m room₂)
    answer-front m d = sym (length-take-le m room₂ (answer-written m d))
