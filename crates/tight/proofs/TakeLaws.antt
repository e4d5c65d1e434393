-- Steps taken off the front of a list's bytes, one after the other.
use Prim.Native.Nat.{ℕ, ◌+◌, ◌≤◌}
use mathlib.Core.Path.{◌≡◌, refl, sym, ap, ◌∙◌}
use mathlib.Core.List.{List, [], ◌∷◌, ◌++◌}
use mathlib.Core.Bool.{Bool, true, false, not, ◌&&◌, cond}
use native.Mathlib.Omega.{arith}
use lib.Dec.{ltb}
use lib.ListN.{length, drop, length-drop}
use lib.Seq.{drop-drop}
use borrow.Author.Tests.{ltb-false}
use Rattle.packet.specs.Step.{Step}
use Rattle.cue.specs.Records.{record_kind, record_bytes}
use Rattle.tight.specs.Tight.{unlocks}
use Rattle.tight.specs.Inside.{step_takes, further, and_then, steps_take}
use Rattle.std.proofs.Common.{Option, Some, None}

further-further : (j k : ℕ) (t : Option ℕ) → further j (further k t) ≡ further (j + k) t
unfolding further
further-further j k None = refl
further-further j k (Some n) = ap Some (omega arith)

pub further-none : (t : Option ℕ) → further 0 t ≡ t
unfolding further
further-none None = refl
further-none (Some n) = ap Some (omega arith)

pub first-rejected : (s : Step) (ss : List Step) (rest : List ℕ) → step_takes s rest ≡ None
    → steps_take (s ∷ ss) rest ≡ None
unfolding steps_take and_then
first-rejected s ss rest e = rw e

pub take-append : (ss ts : List Step) (rest : List ℕ)
    → steps_take (ss ++ ts) rest ≡ and_then (steps_take ss rest) (λ k. steps_take ts (drop k rest))
unfolding steps_take and_then further
take-append [] ts rest = sym (further-none _)
take-append (s ∷ ss) ts rest = go (step_takes s rest) (λ k. take-append ss ts (drop k rest))
  where
    on : (k : ℕ) (t : Option ℕ) → steps_take ss (drop k rest) ≡ t
        → further k (and_then t (λ j. steps_take ts (drop j (drop k rest))))
        ≡ and_then (further k t) (λ j. steps_take ts (drop j rest))
    on k None e = refl
    on k (Some j) e =
        further-further k j (steps_take ts (drop j (drop k rest)))
        ∙ ap (λ l. further (k + j) (steps_take ts l)) (drop-drop j k rest)

    go : (t : Option ℕ)
        → ((k : ℕ)
        → steps_take (ss ++ ts) (drop k rest) ≡ and_then (steps_take ss (drop k rest)) (λ j. steps_take ts (drop j (drop k rest))))
        → and_then t (λ k. steps_take (ss ++ ts) (drop k rest))
        ≡ and_then (and_then t (λ k. steps_take ss (drop k rest))) (λ k. steps_take ts (drop k rest))
    go None h = refl
    go (Some k) h = ap (further k) (h k) ∙ on k _ refl

-- after steps that are rejected, and after steps that take k bytes
pub append-rejected : (ss ts : List Step) (rest : List ℕ) → steps_take ss rest ≡ None
    → steps_take (ss ++ ts) rest ≡ None
unfolding and_then
append-rejected ss ts rest e = take-append ss ts rest ∙ rw e refl

pub append-taken : (ss ts : List Step) (rest : List ℕ) (k : ℕ) → steps_take ss rest ≡ Some k
    → steps_take (ss ++ ts) rest ≡ further k (steps_take ts (drop k rest))
unfolding and_then
append-taken ss ts rest k e = take-append ss ts rest ∙ rw e refl

-- No more bytes are taken than there are.
pub step-within : (s : Step) (rest : List ℕ) (n : ℕ) → step_takes s rest ≡ Some n → n ≤ length rest
unfolding step_takes
step-within s rest n e = go (unlocks s) (ltb (length rest) (record_bytes (record_kind rest))) _ refl e
  where
    go : (t u v : Bool) → ltb (length rest) (record_bytes (record_kind rest)) ≡ u
        → cond t (Some 0) (cond (not u && v) (Some (record_bytes (record_kind rest))) None) ≡ Some n
        → n ≤ length rest
    go true u v f e = let z : 0 ≡ n = cc in omega arith
    go false true v f e = let z : ◌≡◌ {A = ℕ} 0 1 = cc in absurd (omega arith)
    go false false false f e = let z : ◌≡◌ {A = ℕ} 0 1 = cc in absurd (omega arith)
    go false false true f e =
        let z : record_bytes (record_kind rest) ≡ n = cc in
        let l = ltb-false (length rest) (record_bytes (record_kind rest)) f in
        omega arith

pub steps-within : (ss : List Step) (rest : List ℕ) (n : ℕ) → steps_take ss rest ≡ Some n → n ≤ length rest
unfolding steps_take and_then further
steps-within [] rest n e = let z : 0 ≡ n = cc in omega arith
steps-within (s ∷ ss) rest n e = go _ refl (λ k. steps-within ss (drop k rest)) e
  where
    on : (k : ℕ) (t : Option ℕ) → k ≤ length rest → (steps_take ss (drop k rest) ≡ t)
        → ((j : ℕ) → steps_take ss (drop k rest) ≡ Some j → j ≤ length (drop k rest))
        → further k t ≡ Some n → n ≤ length rest
    on k None l f r e = let z : ◌≡◌ {A = ℕ} 0 1 = cc in absurd (omega arith)
    on k (Some j) l f r e =
        let z : k + j ≡ n = cc in
        let h = rw length-drop at (r j f) in
        omega arith

    go : (t : Option ℕ) → step_takes s rest ≡ t
        → ((k j : ℕ) → steps_take ss (drop k rest) ≡ Some j → j ≤ length (drop k rest))
        → and_then t (λ k. steps_take ss (drop k rest)) ≡ Some n → n ≤ length rest
    go None f r e = let z : ◌≡◌ {A = ℕ} 0 1 = cc in absurd (omega arith)
    go (Some k) f r e = on k _ (step-within s rest k f) refl (r k) e

-- Some of the steps have taken so many bytes; those that are left begin behind them.
pub record Taking (whole left : List Step) (list : List ℕ) (taken : ℕ) : Type 0 where
  pub same : steps_take whole list ≡ further taken (steps_take left (drop taken list))
  pub within : taken ≤ length list

pub taking-first : (ss : List Step) (list : List ℕ) → Taking ss ss list 0
taking-first ss list = record { same = sym (further-none _); within = omega arith }

pub taking-last : {whole : List Step} {list : List ℕ} {taken : ℕ} → Taking whole [] list taken
    → steps_take whole list ≡ Some taken
unfolding steps_take further
taking-last {taken = taken} t = t.same ∙ ap Some (omega arith)

module _ {whole left : List Step} {s : Step} {list : List ℕ} {taken : ℕ} (t : Taking whole (s ∷ left) list taken) where
  pub taking-rejected : step_takes s (drop taken list) ≡ None → steps_take whole list ≡ None
  unfolding steps_take and_then further
  taking-rejected e = t.same ∙ rw e refl

  pub taking-next : (n : ℕ) → step_takes s (drop taken list) ≡ Some n → Taking whole left list (taken + n)
  unfolding steps_take and_then
  taking-next n e =
      let w = t.within in
      let l = rw length-drop at (step-within s (drop taken list) n e) in
      record {
        same =
            t.same
            ∙ ap (λ u. further taken (and_then u (λ k. steps_take left (drop k (drop taken list))))) e
            ∙ further-further taken n _
            ∙ ap (λ l. further (taken + n) (steps_take left l)) (drop-drop n taken list);
        within = omega arith;
      }
