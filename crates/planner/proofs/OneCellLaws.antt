-- Counting the records of a list that are reads of one cell.
use Prim.Native.Nat.{ℕ, zero, suc, ◌+◌, ◌≤◌, ◌<◌}
use mathlib.Core.Path.{◌≡◌, refl, sym, ap, ◌∙◌}
use mathlib.Core.List.{List, [], ◌∷◌, map}
use mathlib.Core.Bool.{Bool, true, false}
use native.Mathlib.Omega.{arith}
use Rattle.std.proofs.Common.{Some, None}
use Rattle.std.specs.Bool.{⊤}
use lib.ListN.{length, drop, replicate}
use Rattle.packet.specs.Step.{Step, is_write}
use Rattle.cue.specs.Records.{record_step, record_kind, record_bytes}
use Rattle.cue.specs.Records.{record_at, brief, cut_up}
use Rattle.cue.proofs.CutLaws.{cut-good}
use Rattle.cue.specs.declared.records.Record.{Record}
use Rattle.cue.proofs.ReadingLaws.{passing}
use Rattle.cue.proofs.WalkLaws.{Remains, remains-all, remains-none, Next, remains-next}
use Rattle.planner.specs.Planner.{OneCell}

-- `count` of n equal records are counted; the rest of the list has the others.
record Left (rest : List ℕ) (count n : ℕ) (x : Step) : Type 0 where
  todo : ℕ
  index : ℕ
  sum : count + todo ≡ n
  remains : Remains index rest (replicate todo x)

left-first : (list : List ℕ) (n : ℕ) (x : Step) → OneCell list n x → Left list 0 n x
left-first list n x o =
    record { todo = n; index = 0; sum = omega arith; remains = remains-all list (replicate n x) o.list-records }

-- the first record that is left, as the code reads it, and those behind it
record Front (rest : List ℕ) (count n : ℕ) (x : Step) : Type 0 where
  at : record_at rest ≡ brief x
  whole : 6 ≤ length rest
  more : count < n
  next : Left (drop 6 rest) (count + 1) n x

front : (rest : List ℕ) (count n : ℕ) (x : Step) → is_write x.kind ≡ false → (length rest ≡ 0 → ⊥) → Left rest count n x
    → Front rest count n x
unfolding record_step record_bytes
front rest count n x reads h l = end l.todo l.sum (remains-next l.remains h)
  where
    end : (m : ℕ) → count + m ≡ n → Next l.index rest (replicate m x) → Front rest count n x
    end zero s t =
        let e : [] ≡ record_step rest ∷ t.later = t.same in
        let z : ◌≡◌ {A = ℕ} 0 1 = cc in
        absurd (omega arith)
    end (suc m) s t =
        let e : x ∷ replicate m x ≡ record_step rest ∷ t.later = t.same in
        let same : record_step rest ≡ x = cc in
        let tail : t.later ≡ replicate m x = cc in
        let pass = passing l.index rest t.fine in
        let kind : is_write (record_kind rest) ≡ false = ap (λ (y : Step). is_write y.kind) same ∙ reads in
        let six : record_bytes (record_kind rest) ≡ 6 = rw kind refl in
        let wide : record_bytes (record_kind rest) ≤ length rest = pass.bytes in
        record {
          at = pass.read ∙ ap brief same;
          whole = omega arith;
          more = omega arith;
          next = record { todo = m; index = l.index + 1; sum = omega arith; remains = rw (six, tail) at t.remains };
        }

left-last : (rest : List ℕ) (count n : ℕ) (x : Step) → length rest ≡ 0 → Left rest count n x → count ≡ n
left-last rest count n x h l = go l.todo l.sum (remains-none l.remains h)
  where
    go : (m : ℕ) → count + m ≡ n → replicate m x ≡ [] → count ≡ n
    go zero s e = omega arith
    go (suc m) s e = let z : ◌≡◌ {A = ℕ} 0 1 = cc in absurd (omega arith)

-- the cell, as the code reads it from the list's first record
pub cell-is : (list : List ℕ) (n : ℕ) (x : Step) → OneCell list n x → record_at list ≡ brief x
cell-is list n x o =
    (front list 0 n x o.read (λ h. let z = left-last list 0 n x h (left-first list n x o) in omega (arith, o.some))
    (left-first list n x o)).at

-- `count` of n equal records are counted; the others are left.
record Todo (recs : List Record) (count n : ℕ) (x : Step) : Type 0 where
  todo : ℕ
  sum : count + todo ≡ n
  same : recs ≡ replicate todo (brief x)

copies : (n : ℕ) (x : Step) → map brief (replicate n x) ≡ replicate n (brief x)
copies zero x = refl
copies (suc n) x = ap (λ l. brief x ∷ l) (copies n x)

-- Between two records of the list.
pub record Counting (list : List ℕ) (recs : List Record) (count : ℕ) : Type 0 where
  pub few : count ≤ 127
  left : (n : ℕ) (x : Step) → OneCell list n x → Todo recs count n x

-- an answer where the list is not one of reads of one cell
abbrev pub Other : List ℕ → Type 0
Other list = ⊤ × ((n : ℕ) (x : Step) → OneCell list n x → None ≡ Some n)

other : (list : List ℕ) → ((n : ℕ) (x : Step) → OneCell list n x → ⊥) → Other list
other list h = (tt, λ n x o. absurd (h n x o))

pub counting-first : (list : List ℕ) → Counting list (cut_up list) 0
counting-first list =
    record {
      few = omega arith;
      left = λ n x o. record { todo = n; sum = omega arith; same = cut-good list (replicate n x) o.list-records ∙ copies n x };
    }

module _ (list : List ℕ) (recs more : List Record) (r : Record) (count : ℕ) (c : Counting list recs count) (e : recs ≡ r ∷ more) where
  next : (n : ℕ) (x : Step) → OneCell list n x → (r ≡ brief x) × ((count < n) × Todo more (count + 1) n x)
  next n x o = let t = c.left n x o in go t.todo t.sum t.same
    where
      go : (m : ℕ) → count + m ≡ n → recs ≡ replicate m (brief x) → (r ≡ brief x) × ((count < n) × Todo more (count + 1) n x)
      go zero s q = let z : ◌≡◌ {A = ℕ} 0 1 = cc in absurd (omega arith)
      go (suc m) s q = (cc, (omega arith, record { todo = m; sum = omega arith; same = cc }))

  pub no_read : (cell : Record) (b : Bool) → cell ≡ record_at list → (r ≡ cell → r.write ≡ false → b ≡ true) → b ≡ false → Other list
  unfolding brief
  no_read cell b q reads f =
      other list
      (λ n x o.
      let p = (next n x o).0 in
      let same : r ≡ cell = p ∙ sym (q ∙ cell-is list n x o) in
      let t : b ≡ true = reads same (ap (λ (s : Record). s.write) p ∙ o.read) in
      let z : ◌≡◌ {A = ℕ} 0 1 = cc in
      omega arith)

  pub too_many : count ≡ 127 → Other list
  too_many h = other list (λ n x o. let m = (next n x o).1.0 in omega (arith, o.few))

  pub counting-again : (count ≡ 127 → ⊥) → Counting list more (count + 1)
  counting-again h = let few = c.few in record { few = omega arith; left = λ n x o. (next n x o).1.1 }

pub counted : (list : List ℕ) (recs : List Record) (count : ℕ) → Counting list recs count → recs ≡ [] → (n : ℕ) (x : Step)
    → OneCell list n x → count ≡ n
counted list recs count c h n x o = let t = c.left n x o in go t.todo t.sum t.same
  where
    go : (m : ℕ) → count + m ≡ n → recs ≡ replicate m (brief x) → count ≡ n
    go zero s q = omega arith
    go (suc m) s q = let z : ◌≡◌ {A = ℕ} 0 1 = cc in absurd (omega arith)

pub too_few : (list : List ℕ) (recs : List Record) (count : ℕ) → Counting list recs count → recs ≡ [] → count < 2 → Other list
too_few list recs count c h l = other list (λ n x o. let e = counted list recs count c h n x o in omega (arith, o.some))
