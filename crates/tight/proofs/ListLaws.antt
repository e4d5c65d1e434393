-- Steps that take all bytes of an accepted list are its records.
use Prim.Native.Nat.{ℕ, suc, ◌+◌, ◌-◌, ◌≤◌}
use mathlib.Core.Path.{◌≡◌, refl, sym, ap, ◌∙◌}
use mathlib.Core.List.{List, [], ◌∷◌}
use mathlib.Core.Bool.{Bool, true, false, ◌&&◌, cond}
use native.Mathlib.Omega.{arith}
use lib.Dec.{eqb}
use lib.ListN.{length, drop, length-drop}
use borrow.Author.Tests.{eq-eqb, ne_eqb, eqb-true, eqb-false, lt-ltb, le-ltb}
use Rattle.packet.specs.Step.{Step}
use Rattle.cue.specs.Records.{records, records_of, record_step, record_kind, record_bytes}
use Rattle.cue.proofs.RecordLaws.{whole-front}
use Rattle.cue.proofs.PackingLaws.{record_bytes_le}
use Rattle.cue.proofs.WalkLaws.{Remains, remains-all, remains-none, Next, remains-next}
use Rattle.tight.specs.Tight.{unlocks, without_unlocks, same_step, same_steps}
use Rattle.tight.specs.Inside.{step_takes, further, and_then, steps_take}
use Rattle.std.proofs.Common.{Option, Some, None}
use Rattle.tight.proofs.TakeLaws.{further-none}

-- whether all of so many bytes are taken
unfoldable pub takes_all : Option ℕ → ℕ → Bool
takes_all None n = false
takes_all (Some k) n = eqb k n

all-further : (k n : ℕ) (t : Option ℕ) → k ≤ n → takes_all (further k t) n ≡ takes_all t (n - k)
unfolding takes_all further
all-further k n None l = refl
all-further k n (Some j) l = go (eqb j (n - k)) refl
  where
    go : (t : Bool) → eqb j (n - k) ≡ t → eqb (k + j) n ≡ t
    go true e = let q = eqb-true j (n - k) e in eq-eqb (k + j) n (omega arith)
    go false e = ne_eqb (k + j) n (λ q. eqb-false j (n - k) e (omega arith))

-- a step that is no unlock write, at the list's end and at a record
module _ (s : Step) (plain : unlocks s ≡ false) where
  step_end : step_takes s [] ≡ None
  unfolding step_takes
  step_end = rw (plain, lt-ltb 0 (record_bytes (record_kind [])) (omega (arith, record_bytes_le (record_kind []))))

  step-front : (rest : List ℕ) → record_bytes (record_kind rest) ≤ length rest
      → step_takes s rest ≡ cond (same_step s (record_step rest)) (Some (record_bytes (record_kind rest))) None
  unfolding step_takes
  step-front rest h = rw (plain, le-ltb (length rest) (record_bytes (record_kind rest)) h)

-- From any record on: the steps are the records left exactly if they take all bytes left.
abbrev Same : List Step → Type 0
Same ss =
    (index : ℕ) (rest : List ℕ) (todo : List Step) → Remains index rest todo
    → same_steps (without_unlocks ss) todo ≡ takes_all (steps_take ss rest) (length rest)

same_none : Same []
unfolding without_unlocks steps_take takes_all same_steps
same_none index [] todo r = rw (remains-none r refl)
same_none index (b ∷ bs) todo r =
    let n = remains-next r (λ z. omega arith) in
    rw n.same (sym (ne_eqb 0 (suc (length bs)) (λ z. omega arith)))

module _ (s : Step) (ss : List Step) (later : Same ss) where
  same-unlock : unlocks s ≡ true → Same (s ∷ ss)
  unfolding without_unlocks steps_take step_takes and_then
  same-unlock u index rest todo r =
      rw u (later index rest todo r ∙ ap (λ t. takes_all t (length rest)) (sym (further-none (steps_take ss rest))))

  same-front : unlocks s ≡ false → (index : ℕ) (rest : List ℕ) (todo : List Step) → Remains index rest todo
      → same_steps (s ∷ without_unlocks ss) todo ≡ takes_all (steps_take (s ∷ ss) rest) (length rest)
  unfolding same_steps steps_take and_then takes_all
  same-front u index [] todo r = rw (remains-none r refl, step_end s u)
  same-front u index (b ∷ bs) todo r = rw (next.same, step-front s u rest w) (go (same_step s (record_step rest)))
    where
      rest : List ℕ
      rest = b ∷ bs

      n : ℕ
      n = record_bytes (record_kind (b ∷ bs))

      next : Next index rest todo
      next = remains-next r (λ z. omega arith)

      w : n ≤ length rest
      w = whole-front index rest next.fine

      on : same_steps (without_unlocks ss) next.later ≡ takes_all (further n (steps_take ss (drop n rest))) (length rest)
      on =
          later (index + 1) (drop n rest) next.later next.remains
          ∙ ap (takes_all (steps_take ss (drop n rest))) (length-drop n rest)
          ∙ sym (all-further n (length rest) (steps_take ss (drop n rest)) w)

      go : (t : Bool)
          → (t && same_steps (without_unlocks ss) next.later)
          ≡ takes_all (and_then (cond t (Some n) None) (λ k. steps_take ss (drop k rest))) (length rest)
      go true = on
      go false = refl

  same_more : Same (s ∷ ss)
  unfolding without_unlocks
  same_more = go (unlocks s) refl
    where
      go : (t : Bool) → unlocks s ≡ t → Same (s ∷ ss)
      go true u = same-unlock u
      go false u = λ index rest todo r. rw u (same-front u index rest todo r)

same-all : (ss : List Step) → Same ss
same-all [] = same_none
same-all (s ∷ ss) = same_more s ss (same-all ss)

-- Of an accepted list: the steps, unlock writes apart, are its records exactly if they take all its bytes.
pub steps-taken : (list : List ℕ) (xs : List Step) → records_of list ≡ records xs → (ss : List Step)
    → same_steps (without_unlocks ss) xs ≡ takes_all (steps_take ss list) (length list)
steps-taken list xs e ss = same-all ss 0 list xs (remains-all list xs e)
