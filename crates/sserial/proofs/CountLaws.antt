-- A table entry by entry, and what counting its fields answers.
use Prim.Native.Nat.{ℕ, suc, ◌+◌, ◌≤◌, ◌<◌}
use mathlib.Core.Path.{◌≡◌, refl, sym, ◌∙◌}
use mathlib.Core.Bool.{Bool, true, false, ◌||◌, cond, or-true}
use mathlib.Core.List.{List, [], ◌∷◌}
use native.Mathlib.Omega.{arith}
use native.Mathlib.Nat.{add-zero, zero-add}
use native.Mathlib.Numerals.{add-one}
use lib.ListN.{length, drop, length-drop}
use lib.Seq.{drop-cons}
use lib.Dec.{eqb, ltb}
use borrow.Author.Tests.{ltb-true, ltb-false, lt-ltb, le-ltb, eqb-false}
use Rattle.std.specs.Prelude.{Option, Some, None, IfSome}
use Rattle.lbp16.specs.Answer.{accepted, refused}
use Rattle.sserial.specs.Table.{Table, unreadable, fields, Checked, stands_in, directed, bits, any_miswide}
use Rattle.sserial.specs.Table.{overfull, checked, checked_at, table_from, table_at, with_field, with_entry}
use Rattle.sserial.specs.Calls.{counted}
use Rattle.sserial.specs.Inside.{Small, Within, sum_with, sums_with, sums_more, sums_answer, count_on, entry_at}
use Rattle.sserial.specs.declared.table.Field.{Field}
use Rattle.sserial.specs.declared.table.Entry.{Entry}
use Rattle.sserial.specs.declared.table.Entry.TheVariants.{End, Unreadable, Mode}
use Rattle.sserial.specs.declared.table.Direction.{Direction}
use Rattle.sserial.specs.declared.table.Direction.TheVariants.{Inputs, Outputs}
use Rattle.sserial.specs.declared.count.Sum.{Sum}
use Rattle.sserial.specs.declared.count.Sums.{Sums}
use Rattle.sserial.proofs.TableLaws.{entry-cut, entry_read}

-- the table from an entry on is that entry and the table after it
pub table-next : (m : List ℕ) (at : ℕ) → table_at m at ≡ with_entry (entry_at m at) (table_at m (at + 2))
unfolding table_at table_from with_entry
table-next m at = go (ltb (length m) (at + 2)) refl
  where
    short : (l : List ℕ) → length l ≤ 1 → table_from m l ≡ unreadable
    short [] h = refl
    short (a ∷ []) h = refl
    short (a ∷ b ∷ l) h = absurd (omega arith)

    go : (t : Bool) → ltb (length m) (at + 2) ≡ t → table_from m (drop at m) ≡ with_entry (entry_at m at) (table_from m (drop (at + 2) m))
    go true e =
        let h : length m < at + 2 = ltb-true _ _ e in
        let d = length-drop at m in
        rw (entry-cut m at h) (short (drop at m) (omega arith))
    go false e =
        let h : at + 2 ≤ length m = ltb-false _ _ e in
        let s : suc (suc at) ≡ at + 2 = omega arith in
        let a : at < length m = omega arith in
        let b : suc at < length m = omega arith in
        rw (drop-cons m at 0 a, drop-cons m (suc at) 0 b, s, entry_read m at h) (rw add-one refl)

-- one more field in a sum
module _ (d : Direction) (s : Sum) (f : Field) where
  pub sum-bits : (fs : List Field) → s.bits + bits (directed d (f ∷ fs)) ≡ (sum_with d s f).bits + bits (directed d fs)
  unfolding directed sum_with bits
  sum-bits fs = go (stands_in d f)
    where
      go : (t : Bool)
          → s.bits + bits (cond t (f ∷ directed d fs) (directed d fs))
          ≡ (cond t (record { fields = s.fields + 1; bits = s.bits + f.width }) s).bits + bits (directed d fs)
      go true = omega arith
      go false = refl

  pub sum_fields : (fs : List Field)
      → s.fields + length (directed d (f ∷ fs)) ≡ (sum_with d s f).fields + length (directed d fs)
  unfolding directed sum_with
  sum_fields fs = go (stands_in d f)
    where
      go : (t : Bool)
          → s.fields + length (cond t (f ∷ directed d fs) (directed d fs))
          ≡ (cond t (record { fields = s.fields + 1; bits = s.bits + f.width }) s).fields + length (directed d fs)
      go true = omega arith
      go false = refl

  pub sum-small : Small s → 1 ≤ f.width → (sum_with d s f).bits ≤ 96 → Small (sum_with d s f)
  unfolding sum_with
  sum-small h w = go (stands_in d f)
    where
      go : (t : Bool)
          → (cond t (record { fields = s.fields + 1; bits = s.bits + f.width }) s).bits ≤ 96
          → Small (cond t (record { fields = s.fields + 1; bits = s.bits + f.width }) s)
      go true b = record { bits = b; fields = omega arith }
      go false b = h

module _ (s : Sums) (f : Field) where
  -- a field counted now is a field that follows
  count-some : (fs : List Field) → count_on (Some s) (fields (f ∷ fs)) ≡ count_on (sums_with s f) (fields fs)
  unfolding count_on sums_with any_miswide
  count-some fs =
      rw (sum-bits Inputs s.inputs f fs, sum-bits Outputs s.outputs f fs, sum_fields Inputs s.inputs f fs, sum_fields Outputs s.outputs f fs)
      (go (eqb f.width 0) (ltb 64 f.width) (ltb 96 ins.bits) (ltb 96 outs.bits) refl refl)
    where
      ins : Sum
      ins = sum_with Inputs s.inputs f

      outs : Sum
      outs = sum_with Outputs s.outputs f

      go : (a b i j : Bool) → ltb 96 ins.bits ≡ i → ltb 96 outs.bits ≡ j
          → cond
          ((a || b || any_miswide fs) || ltb 96 (ins.bits + bits (directed Inputs fs)) || ltb 96 (outs.bits + bits (directed Outputs fs)))
          (refused 42 0)
          (accepted ((ins.fields + length (directed Inputs fs)) ∷ (outs.fields + length (directed Outputs fs)) ∷ []))
          ≡ count_on (cond (a || b || i || j) None (Some (record { inputs = ins; outputs = outs }))) (fields fs)
      go true b i j e d = refl
      go false true i j e d = refl
      go false false true j e d =
          let h : 96 < ins.bits = ltb-true _ _ e in
          rw (lt-ltb 96 (ins.bits + bits (directed Inputs fs)) (omega arith), or-true) refl
      go false false false true e d =
          let h : 96 < outs.bits = ltb-true _ _ d in
          rw (lt-ltb 96 (outs.bits + bits (directed Outputs fs)) (omega arith), or-true) refl
      go false false false false e d = refl

  -- the sums stay small
  within-some : Within s → IfSome (sums_with s f) Within
  unfolding sums_with
  within-some h = go (eqb f.width 0) (ltb 64 f.width) (ltb 96 ins.bits) (ltb 96 outs.bits) refl refl refl
    where
      ins : Sum
      ins = sum_with Inputs s.inputs f

      outs : Sum
      outs = sum_with Outputs s.outputs f

      positive : {n : ℕ} → (n ≡ 0 → ⊥) → 1 ≤ n
      positive {n} h = omega arith

      go : (a b i j : Bool) → eqb f.width 0 ≡ a → ltb 96 ins.bits ≡ i → ltb 96 outs.bits ≡ j
          → IfSome (cond (a || b || i || j) None (Some (record { inputs = ins; outputs = outs }))) Within
      go true b i j p e d = tt
      go false true i j p e d = tt
      go false false true j p e d = tt
      go false false false true p e d = tt
      go false false false false p e d =
          let w : 1 ≤ f.width = positive (eqb-false _ _ p) in
          record {
            inputs = sum-small Inputs s.inputs f h.inputs w (ltb-false _ _ e);
            outputs = sum-small Outputs s.outputs f h.outputs w (ltb-false _ _ d);
          }

none_on : (t : Table) (f : Field) → count_on None (with_field f t) ≡ count_on None t
unfolding count_on with_field
none_on unreadable f = refl
none_on (fields fs) f = refl

cut_on : (s : Option Sums) → count_on s unreadable ≡ refused 41 0
unfolding count_on
cut_on None = refl
cut_on (Some s) = refl

pub count-field : (s : Option Sums) (f : Field) (t : Table) → count_on s (with_field f t) ≡ count_on (sums_more s f) t
unfolding with_field sums_more
count-field None f t = none_on t f
count-field (Some s) f unreadable = cut_on (Some s) ∙ sym (cut_on (sums_with s f))
count-field (Some s) f (fields fs) = count-some s f fs

pub sums_within : (s : Option Sums) (f : Field) → IfSome s Within → IfSome (sums_more s f) Within
unfolding sums_more
sums_within None f h = tt
sums_within (Some s) f h = within-some s f h

-- the count's start and its end
abbrev pub begun : Sums
begun = record { inputs = record { fields = 0; bits = 0 }; outputs = record { fields = 0; bits = 0 } }

pub count-start : (t : Table) → count_on (Some begun) t ≡ counted (checked t)
unfolding count_on checked counted overfull any_miswide
count-start unreadable = refl
count-start (fields fs) = simp zero-add (go (any_miswide fs || ltb 96 (bits (directed Inputs fs)) || ltb 96 (bits (directed Outputs fs))))
  where
    go : (t : Bool)
        → cond t (refused 42 0) (accepted (length (directed Inputs fs) ∷ length (directed Outputs fs) ∷ []))
        ≡ counted (cond t (Checked.refused 42) (Checked.laid fs))
    go true = refl
    go false = refl

pub count-end : (s : Option Sums) → IfSome s Within → count_on s (fields []) ≡ sums_answer s
unfolding count_on sums_answer directed bits any_miswide
count-end None h = refl
count-end (Some s) h = simp add-zero (rw (le-ltb _ _ h.inputs.bits, le-ltb _ _ h.outputs.bits) refl)

-- the table at `table`, with the entries before `at` counted
pub record Counting (m : List ℕ) (table at : ℕ) (s : Option Sums) : Type 0 where
  pub same : count_on s (table_at m at) ≡ counted (checked_at m table)
  pub within : IfSome s Within

pub counting-first : (m : List ℕ) (table : ℕ) → Counting m table table (Some begun)
unfolding checked_at
counting-first m table =
    let none : Small (record { fields = 0; bits = 0 }) = record { bits = omega arith; fields = omega arith } in
    record { same = count-start (table_at m table); within = record { inputs = none; outputs = none } }

module _ {m : List ℕ} {table at : ℕ} {s : Option Sums} (h : Counting m table at s) where
  entry_first : (e : Entry) → e ≡ entry_at m at → count_on s (with_entry e (table_at m (at + 2))) ≡ counted (checked_at m table)
  entry_first e d = rw (d, ← table-next m at) h.same

  pub count-ended : (e : Entry) → e ≡ entry_at m at → e ≡ End → sums_answer s ≡ counted (checked_at m table)
  unfolding with_entry
  count-ended e d k = sym (count-end s h.within) ∙ (rw k at (entry_first e d))

  pub count_cut : (e : Entry) → e ≡ entry_at m at → e ≡ Unreadable → refused 41 0 ≡ counted (checked_at m table)
  unfolding with_entry
  count_cut e d k = sym (cut_on s) ∙ (rw k at (entry_first e d))

  pub count-mode : (e : Entry) → e ≡ entry_at m at → e ≡ Mode → (s' : Option Sums) → s' ≡ s → Counting m table (at + 2) s'
  unfolding with_entry
  count-mode e d k s' q = rw q (record { same = rw k at (entry_first e d); within = h.within })

  pub count-more : (e : Entry) (f : Field) → e ≡ entry_at m at → e ≡ Entry.Field f
      → (s' : Option Sums) → s' ≡ sums_more s f → Counting m table (at + 2) s'
  unfolding with_entry
  count-more e f d k s' q =
      rw q
      (record {
        same = sym (count-field s f (table_at m (at + 2))) ∙ (rw k at (entry_first e d));
        within = sums_within s f h.within;
      })
