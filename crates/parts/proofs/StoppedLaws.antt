-- A refused call leaves the room as it was, and after a fault or the list's end a call changes nothing and says the same.
use Prim.Native.Nat.{ℕ, ◌≤◌}
use mathlib.Core.Path.{◌≡◌, refl, sym, ap, ◌∙◌}
use mathlib.Core.List.{List, [], ◌∷◌, ◌++◌}
use mathlib.Core.Bool.{Bool, false, cond}
use native.Mathlib.Omega.{arith}
use lib.ListN.{length, drop}
use Rattle.lbp16.specs.Answer.{accepted, refused}
use Rattle.parts.specs.Taking.{State, Standing, going, ended, faulted, Taken, is_going, called, answer_by, answered}
use Rattle.parts.specs.State.{held_packing, state_of, bad_state, bytes_of_state}
use Rattle.cue.specs.Output.{frame_room}
use Rattle.parts.specs.Rule.{Opened, packing_rule}
use Rattle.parts.specs.Parts.{PartCall, untouched, leaves, part_of}
use Rattle.parts.specs.Promise.{Calls}
use Rattle.parts.proofs.AlikeLaws.{Alike}
use Rattle.parts.proofs.SameLaws.{Same}
use Rattle.parts.proofs.KeepLaws.{Quiet, call-quiet}
use Rattle.parts.proofs.FitLaws.{call-cases}
use Rattle.parts.proofs.FollowLaws.{calls_follow, wide-call, same_answer, state-next}

-- a fault's answer, and what stands then
fault-is : (k : Standing) (index m n i : ℕ) → answer_by k index m ≡ refused n i → (k ≡ faulted n) × (index ≡ i)
unfolding answer_by
fault-is going index m n i e = let z : ◌≡◌ {A = ℕ} 0 1 = cc in absurd (omega arith)
fault-is ended index m n i e = let z : ◌≡◌ {A = ℕ} 0 1 = cc in absurd (omega arith)
fault-is (faulted k) index m n i e = let a : k ≡ n = cc in let b : index ≡ i = cc in (ap faulted a, b)

module _ (state part : List ℕ) (last : Bool) (room : List ℕ) where
  -- a refused call, whatever refused it
  pub refused-room : (n i : ℕ) → (part_of state part last room).answer ≡ refused n i → (part_of state part last room).room ≡ room
  unfolding untouched leaves answered
  refused-room n i =
      call-cases state part last room (λ c. c.answer ≡ refused n i → c.room ≡ room) (λ m j e. refl)
      (λ g e. quiet (called held_packing (state_of state) part last).left (call-quiet held_packing (state_of state) part last) e)
    where
      quiet : {P : Type 0} (t : Taken P) → Quiet t → answer_by t.state.standing t.state.index (length t.out) ≡ refused n i
          → t.out ++ drop (length t.out) room ≡ room
      quiet t h e = rw (h n (fault-is _ _ _ _ _ e).0) refl

  -- where bytes are no longer taken
  pub stopped_call : bad_state state ≡ false → frame_room ≤ length room → is_going (state_of state).standing ≡ false
      → part_of state part last room
      ≡ untouched (answer_by (state_of state).standing (state_of state).index 0) state room
  unfolding untouched leaves called answered
  stopped_call f w g = wide-call state part last room f w ∙ rw g refl

again : (t : List ℕ) (n i : ℕ) (s : State Opened) → (bad_state t ≡ false) × Alike Same s (state_of t)
    → (s.standing ≡ faulted n) × (s.index ≡ i) → (part : List ℕ) (last : Bool) (room : List ℕ) → frame_room ≤ length room
    → part_of t part last room ≡ untouched (refused n i) t room
unfolding is_going answer_by
again t n i s (fine, alike) (stands, index) part last room w =
    let k : (state_of t).standing ≡ faulted n = rw alike.state stands in
    let j : (state_of t).index ≡ i = rw alike.state index in
    let g : is_going (state_of t).standing ≡ false = rw k refl in
    stopped_call t part last room fine w g ∙ rw (k, j) refl

-- The same of calls from a fresh start: after the list's end no bytes are written, and a fault is refused again.
module _ {list : List ℕ} {at : ℕ} {state out : List ℕ} {s : State Opened} (calls : Calls list at state out s) where
  pub ended-again : (part : List ℕ) (last : Bool) (room : List ℕ) → frame_room ≤ length room → (state_of state).standing ≡ ended
      → part_of state part last room ≡ untouched (accepted (0 ∷ [])) state room
  unfolding is_going answer_by
  ended-again part last room w e =
      let g : is_going (state_of state).standing ≡ false = rw e refl in
      stopped_call state part last room (calls_follow calls).fine w g ∙ rw e refl

  module _ (part : List ℕ) (last : Bool) (room : List ℕ) (w : frame_room ≤ length room) (n i : ℕ)
      (e : (part_of state part last room).answer ≡ refused n i) where
    abbrev left : List ℕ
    left = (part_of state part last room).state

    pub refused-again : (part₂ : List ℕ) (last₂ : Bool) (room₂ : List ℕ) → frame_room ≤ length room₂
        → part_of left part₂ last₂ room₂ ≡ untouched (refused n i) left room₂
    unfolding leaves answered
    refused-again part₂ last₂ room₂ w₂ = rw (ap (λ (x : PartCall). x.state) call) (go (is_going (state_of state).standing) refl)
      where
        call : part_of state part last room
            ≡ leaves (called held_packing (state_of state) part last) (is_going (state_of state).standing) state room
        call = wide-call state part last room (calls_follow calls).fine w

        said : answered (called packing_rule s part last).left ≡ refused n i
        said =
            same_answer list at state out s (calls_follow calls) part last room
            ∙ sym (ap (λ (x : PartCall). x.answer) call) ∙ e

        fault : let u = (called packing_rule s part last).left.state in
            (u.standing ≡ faulted n) × (u.index ≡ i)
        fault = fault-is _ _ _ n i said

        go : (g : Bool) → is_going (state_of state).standing ≡ g
            → let t = cond g (bytes_of_state (called held_packing (state_of state) part last).left.state) state in
            part_of t part₂ last₂ room₂ ≡ untouched (refused n i) t room₂
        go g d = again _ n i _ (state-next list at state out s (calls_follow calls) part last room g d) fault part₂ last₂ room₂ w₂
