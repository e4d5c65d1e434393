-- The answer as the code comes to it: each list's refusal, then the comparison.
use Prim.Native.Nat.{ℕ, ◌≤◌}
use mathlib.Core.Path.{◌≡◌, refl, sym, ap, ◌∙◌}
use mathlib.Core.List.{List, [], ◌∷◌}
use Rattle.std.specs.Prelude.{Result, Ok, Err}
use native.Mathlib.Omega.{arith}
use native.Mathlib.Decide.{dec_le}
use lib.ListN.{get_or, replicate, length-replicate, get_or-replicate, get_or-eq_default}
use Rattle.lbp16.specs.Answer.{Answer, refusal, rule_number}
use Rattle.lbp16.specs.declared.Refusal.{Refusal}
use Rattle.cue.specs.Records.{Listed, refused, records, records_of}
use Rattle.cue.specs.Compile.{compile_listed, needed}
use Rattle.cue.specs.declared.Packed.{Packed}
use Rattle.independent.specs.Independent.{Compared, refused_list, first_clash, compared, independence}
use Rattle.independent.specs.EitherOrder.{EitherOrder}
use Rattle.independent.specs.Inside.{Accepted, table_bytes, Marked}
use Rattle.independent.proofs.EitherOrder.{independent-either_order}
use Rattle.independent.proofs.MarkLaws.{marked-none}

-- a list that the first pass does not refuse
pub accepted_if : (list : List ℕ) (r : Result Packed Refusal) → compile_listed r ≡ needed (records_of list)
    → ((x : Refusal) → r ≡ Err x → ⊥) → Accepted list
unfolding compile_listed needed
accepted_if list (Err x) e z = absurd (z x refl)
accepted_if list (Ok p) e z = go (records_of list) refl e
  where
    go : (v : Listed) → records_of list ≡ v → Answer.accepted (p.bytes ∷ p.packets ∷ []) ≡ needed v → Accepted list
    go (refused n i) f e = let z : ◌≡◌ {A = ℕ} 0 1 = cc in absurd (omega arith)
    go (records xs) f e = record { xs = xs; list-records = f }

module _ (first second : List ℕ) (r : Refusal) where
  pub first-refused : refusal r ≡ needed (records_of first) → refused_list 0 (rule_number r.rule) r.place ≡ independence first second
  unfolding independence compared needed
  first-refused e = go (records_of first) e
    where
      go : (v : Listed) → refusal r ≡ needed v → refused_list 0 (rule_number r.rule) r.place ≡ compared v (records_of second)
      go (refused n i) e =
          let a : rule_number r.rule ≡ n = cc in
          let b : r.place ≡ i = cc in
          rw (a, b) refl
      go (records xs) e = let z : ◌≡◌ {A = ℕ} 0 1 = cc in absurd (omega arith)

  pub second-refused : Accepted first → refusal r ≡ needed (records_of second)
      → refused_list 1 (rule_number r.rule) r.place ≡ independence first second
  unfolding independence compared needed
  second-refused a e = rw a.list-records (go (records_of second) e)
    where
      go : (v : Listed) → refusal r ≡ needed v → refused_list 1 (rule_number r.rule) r.place ≡ compared (records a.xs) v
      go (refused n i) e =
          let a : rule_number r.rule ≡ n = cc in
          let b : r.place ≡ i = cc in
          rw (a, b) refl
      go (records xs) e = let z : ◌≡◌ {A = ℕ} 0 1 = cc in absurd (omega arith)

pub compared_is : (first second : List ℕ) (a : Accepted first) (b : Accepted second) (r : Compared)
    → r ≡ first_clash a.xs 0 b.xs → r ≡ independence first second
unfolding independence compared
compared_is first second a b r e = e ∙ rw (a.list-records, b.list-records) refl

-- a fresh table has no marks
zeros : ℕ → List ℕ
zeros n = replicate n 0

pub fresh_marks : (n : ℕ) → n ≡ table_bytes → Marked [] (replicate n 0)
unfolding zeros
fresh_marks n e = marked-none (zeros n) (length-replicate {A = ℕ} n 0 ∙ e) (λ i. go i (dec_le n i))
  where
    go : (i : ℕ) → Dec (n ≤ i) → get_or (zeros n) i 0 ≡ 0
    go i (yes l) = get_or-eq_default (zeros n) 0 (rw (length-replicate {A = ℕ} n 0) l)
    go i (no g) = get_or-replicate n i 0 0 (omega arith)

-- The answer, and what it promises.
pub answered : (first second : List ℕ) (r : Compared) → r ≡ independence first second
    → (r ≡ independence first second) × (r.number ≡ 0 → EitherOrder first second)
answered first second r e = (e, λ f. independent-either_order first second (ap (λ (c : Compared). c.number) (sym e) ∙ f))
