-- The two passes together are the definition.
use Prim.Native.Nat.{ℕ, ◌≤◌, ◌<◌}
use mathlib.Core.Path.{◌≡◌, refl, sym, ◌∙◌}
use mathlib.Core.List.{List, [], ◌∷◌}
use native.Mathlib.Omega.{arith}
use lib.ListN.{length}
use Rattle.std.specs.Prelude.{Ok, Err}
use borrow.Author.Tests.{lt-ltb, le-ltb}
use Rattle.lbp16.specs.Answer.{Answer}
use Rattle.cue.specs.Records.{Listed, refused, records, records_of}
use Rattle.cue.specs.Compile.{Compiled, compiled_to, compiled, compile_listed, needed, packed, output, bytes_of_output}
use Rattle.cue.specs.declared.Packed.{Packed}
use Rattle.lbp16.specs.declared.Refusal.{Refusal}
use Rattle.cue.specs.Inside.{onward, Planned, planned, room_after, Ready}
use Rattle.cue.specs.Summary.{none}
use Rattle.cue.proofs.LoopLaws.{needs, plan_answer}

-- what an answer and a room at exit must be
abbrev pub Both : Answer → List ℕ → Compiled → Type 0
Both a after c = record { answer = a; room = after } ≡ c

refused-to : (v : Listed) (n i : ℕ) (room : List ℕ) → Answer.refused n i ≡ needed v
    → Both (Answer.refused n i) room (compiled_to v room)
unfolding needed compiled_to
refused-to (refused m j) n i room e = rw e refl
refused-to (records xs) n i room e = let z : ◌≡◌ {A = ℕ} 0 1 = cc in absurd (omega arith)

pub refused-is : (list room : List ℕ) (n i : ℕ) → Answer.refused n i ≡ needed (records_of list)
    → Both (Answer.refused n i) room (compiled list room)
unfolding compiled
refused-is list room n i e = refused-to (records_of list) n i room e

module _ (list room : List ℕ) (b n : ℕ) where
  short-to : (v : Listed) → Answer.accepted (b ∷ n ∷ []) ≡ needed v → length room < b
      → Both (Answer.refused 26 b) room (compiled_to v room)
  unfolding needed compiled_to
  short-to (refused m j) e h = let z : ◌≡◌ {A = ℕ} 0 1 = cc in absurd (omega arith)
  short-to (records xs) e h =
      let q : b ≡ length (output xs) = cc in
      rw (lt-ltb (length room) (length (output xs)) (rw q at h), q) refl

  pub short-is : Answer.accepted (b ∷ n ∷ []) ≡ needed (records_of list) → length room < b
      → Both (Answer.refused 26 b) room (compiled list room)
  unfolding compiled
  short-is e h = short-to (records_of list) e h

  ready_of : (v : Planned) → planned none (records_of list) ≡ v → Answer.accepted (b ∷ n ∷ []) ≡ plan_answer v → b ≤ length room
      → Ready list room
  unfolding plan_answer
  ready_of (Planned.refused m j) p e h = let z : ◌≡◌ {A = ℕ} 0 1 = cc in absurd (omega arith)
  ready_of (Planned.packed css) p e h =
      let q : b ≡ length (bytes_of_output css) = cc in
      record { packets = css; plan = p; fits = rw q at h }

  pub ready : Answer.accepted (b ∷ n ∷ []) ≡ needed (records_of list) → b ≤ length room → Ready list room
  ready e h = ready_of _ refl (e ∙ sym (needs (records_of list))) h

  accepted-to : (v : Listed) → Answer.accepted (b ∷ n ∷ []) ≡ needed v → b ≤ length room
      → Both (Answer.accepted (b ∷ n ∷ [])) (room_after (planned none v) room) (compiled_to v room)
  unfolding needed planned compiled_to room_after onward bytes_of_output output packed
  accepted-to (refused m j) e h = let z : ◌≡◌ {A = ℕ} 0 1 = cc in absurd (omega arith)
  accepted-to (records xs) e h =
      let q : b ≡ length (output xs) = cc in
      rw (le-ltb (length room) (length (output xs)) (rw q at h), e) refl

  pub accepted-is : Answer.accepted (b ∷ n ∷ []) ≡ needed (records_of list) → b ≤ length room
      → Both (Answer.accepted (b ∷ n ∷ [])) (room_after (planned none (records_of list)) room) (compiled list room)
  unfolding compiled
  accepted-is e h = accepted-to (records_of list) e h

-- the same, as the code comes to it from the first pass's answer
pub turned-away : (list room : List ℕ) (r : Refusal) → compile_listed (Err r) ≡ needed (records_of list)
    → Both (compile_listed (Err r)) room (compiled list room)
unfolding compile_listed
turned-away list room r e = refused-is list room _ _ e

module _ (list room : List ℕ) (p : Packed) (e : compile_listed (Ok p) ≡ needed (records_of list)) where
  counted : Answer.accepted (p.bytes ∷ p.packets ∷ []) ≡ needed (records_of list)
  unfolding compile_listed
  counted = e

  pub too_small : length room < p.bytes → Both (Answer.refused 26 p.bytes) room (compiled list room)
  too_small h = short-is list room p.bytes p.packets counted h

  pub may_write : p.bytes ≤ length room → Ready list room
  may_write h = ready list room p.bytes p.packets counted h

  pub all-written : (after : List ℕ) → p.bytes ≤ length room → after ≡ room_after (planned none (records_of list)) room
      → Both (Answer.accepted (p.bytes ∷ p.packets ∷ [])) after (compiled list room)
  all-written after h w = rw w (accepted-is list room p.bytes p.packets counted h)
