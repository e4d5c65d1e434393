-- The answer to a text by that of the walk, and what it means.
use Prim.Native.Nat.{ℕ, ◌≤◌, ◌<◌}
use mathlib.Core.Path.{◌≡◌, refl, sym, ap, ◌∙◌}
use mathlib.Core.List.{List, [], ◌∷◌, ◌++◌}
use mathlib.Core.Bool.{Bool, true, false, cond}
use native.Mathlib.Omega.{arith}
use native.Mathlib.Nat.{zero-add}
use lib.ListN.{length, take, drop}
use lib.Seq.{sets, sets-eq, take-append_seam}
use lib.Dec.{ltb}
use borrow.Author.Tests.{lt-ltb, le-ltb}
use Rattle.std.proofs.Common.{Result}
use Rattle.lbp16.specs.Answer.{Answer, refusal}
use Rattle.lbp16.specs.declared.Refusal.{Refusal}
use Rattle.cue_text.specs.Assembled.{Assembled, bad, cues, assembled, list_of, Left, placed, assembled_to, text_assembled, text_listed, left}
use Rattle.cue_text.specs.TextShow.{TextShow}
use Rattle.cue_text.specs.Inside.{answered}
use Rattle.cue_text.specs.declared.line.Cue.{Cue}
use Rattle.cue_text.specs.declared.Written.{Written}
use Rattle.cue_text.proofs.ShowLaws.{text-show}

-- the answer to a text by that of the walk
module _ (text room : List ℕ) where
  pub answer-refused : (x : Refusal) → refusal x ≡ answered (assembled text)
      → ◌≡◌ {A = Left} (record { answer = refusal x; room = room }) (text_assembled text room)
  unfolding text_assembled answered assembled_to
  answer-refused x e = go (assembled text) e
    where
      go : (a : Assembled) → refusal x ≡ answered a → ◌≡◌ {A = Left} (record { answer = refusal x; room = room }) (assembled_to a room)
      go (bad n k) e = λ i. record { answer = e i; room = room }
      go (cues cs) e = let z : ◌≡◌ {A = ℕ} 0 1 = cc in absurd (omega arith)

  -- of an accepted text its records, with so many bytes
  pub record Good (bytes count : ℕ) : Type 0 where
    pub cs : List Cue
    pub same : assembled text ≡ cues cs
    pub bytes-is : bytes ≡ length (list_of cs)
    pub count-is : count ≡ length cs

  pub good : (bytes count : ℕ) → Answer.accepted (bytes ∷ count ∷ []) ≡ answered (assembled text) → Good bytes count
  unfolding answered
  good bytes count e = go (assembled text) refl e
    where
      go : (a : Assembled) → assembled text ≡ a → Answer.accepted (bytes ∷ count ∷ []) ≡ answered a → Good bytes count
      go (bad n k) f e = let z : ◌≡◌ {A = ℕ} 0 1 = cc in absurd (omega arith)
      go (cues cs) f e =
          let p : bytes ≡ length (list_of cs) = cc in
          let q : count ≡ length cs = cc in
          record { cs = cs; same = f; bytes-is = p; count-is = q }

  module _ (bytes count : ℕ) (g : Good bytes count) where
    pub answer-small : length room < bytes → ◌≡◌ {A = Left} (record { answer = Answer.refused 26 bytes; room = room }) (text_assembled text room)
    unfolding text_assembled assembled_to placed
    answer-small h =
        rw (g.same, g.bytes-is, lt-ltb (length room) (length (list_of g.cs)) (rw g.bytes-is at h)) refl

    pub answer-whole : bytes ≤ length room → {r : Answer} {room₁ : List ℕ} → r ≡ answered (assembled text)
        → ((cs : List Cue) → assembled text ≡ cues cs → room₁ ≡ sets room 0 (list_of cs))
        → ◌≡◌ {A = Left} (record { answer = r; room = room₁ }) (text_assembled text room)
    unfolding text_assembled assembled_to placed answered
    answer-whole h {r} {room₁} e f =
        let l : length (list_of g.cs) ≤ length room = rw g.bytes-is at h in
        let p : room₁ ≡ list_of g.cs ++ drop (length (list_of g.cs)) room =
        f g.cs g.same ∙ sets-eq (list_of g.cs) room 0 (omega arith) ∙ rw zero-add refl in
        rw (e, p, g.same, le-ltb (length room) (length (list_of g.cs)) l) refl

-- An accepted text's list stands at the front of the room.
pub record InRoom (text room₁ : List ℕ) (bytes : ℕ) : Type 0 where
  pub cs : List Cue
  pub same : assembled text ≡ cues cs
  pub list-is : take bytes room₁ ≡ list_of cs

pub accepted-list : (text room : List ℕ) (bytes count : ℕ) → (text_assembled text room).answer ≡ Answer.accepted (bytes ∷ count ∷ [])
    → InRoom text (text_assembled text room).room bytes
unfolding text_assembled assembled_to placed
accepted-list text room bytes count e = go (assembled text) refl e
  where
    go : (a : Assembled) → assembled text ≡ a → (assembled_to a room).answer ≡ Answer.accepted (bytes ∷ count ∷ [])
        → InRoom text (assembled_to a room).room bytes
    go (bad n k) f e = let z : ◌≡◌ {A = ℕ} 0 1 = cc in absurd (omega arith)
    go (cues cs) f e = fits (ltb (length room) (length (list_of cs))) e
      where
        small : Left
        small = record { answer = Answer.refused 26 (length (list_of cs)); room = room }

        whole : Left
        whole = record { answer = Answer.accepted (length (list_of cs) ∷ length cs ∷ []); room = list_of cs ++ drop (length (list_of cs)) room }

        fits : (t : Bool) → (cond t small whole).answer ≡ Answer.accepted (bytes ∷ count ∷ []) → InRoom text (cond t small whole).room bytes
        fits true e = let z : ◌≡◌ {A = ℕ} 0 1 = cc in absurd (omega arith)
        fits false e =
            let q : bytes ≡ length (list_of cs) = cc in
            record { cs = cs; same = f; list-is = rw q (take-append_seam (list_of cs) (drop (length (list_of cs)) room)) }

-- What an accepted text's list does is what its lines say.
pub shown : (text room room₁ : List ℕ) (r : Result Written Refusal) → left r room₁ ≡ text_assembled text room
    → (left r room₁ ≡ text_assembled text room)
    × ((bytes count : ℕ) → text_listed r ≡ Answer.accepted (bytes ∷ count ∷ []) → TextShow text (take bytes room₁))
unfolding left
shown text room room₁ r e = (
  e,
  λ bytes count f.
      let i = accepted-list text room bytes count (ap (λ (l : Left). l.answer) (sym e) ∙ f) in
      let q : take bytes room₁ ≡ list_of i.cs = ap (λ (l : Left). take bytes l.room) e ∙ i.list-is in
      rw q (text-show text i.cs i.same),
)

-- A refused text leaves the room as it was.
pub refusal_changes_nothing : (text room : List ℕ) (n k : ℕ) → (text_assembled text room).answer ≡ Answer.refused n k
    → (text_assembled text room).room ≡ room
unfolding text_assembled assembled_to placed
refusal_changes_nothing text room n k e = go (assembled text) e
  where
    go : (a : Assembled) → (assembled_to a room).answer ≡ Answer.refused n k → (assembled_to a room).room ≡ room
    go (bad m j) e = refl
    go (cues cs) e = fits (ltb (length room) (length (list_of cs))) e
      where
        small : Left
        small = record { answer = Answer.refused 26 (length (list_of cs)); room = room }

        whole : Left
        whole = record { answer = Answer.accepted (length (list_of cs) ∷ length cs ∷ []); room = list_of cs ++ drop (length (list_of cs)) room }

        fits : (t : Bool) → (cond t small whole).answer ≡ Answer.refused n k → (cond t small whole).room ≡ room
        fits true e = refl
        fits false e = let z : ◌≡◌ {A = ℕ} 0 1 = cc in absurd (omega arith)

-- the walk with no room leaves all as it is
pub lent_none : (room part : List ℕ) → length part ≡ 0 → part ++ room ≡ room
lent_none room [] e = refl
lent_none room (b ∷ part) e = absurd (omega arith)
