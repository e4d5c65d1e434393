-- Laws of what the exports of daughter card fields return and leave.
use Prim.Native.Nat.{ℕ, ◌≤◌, ◌<◌}
use mathlib.Core.Path.{◌≡◌, refl}
use mathlib.Core.List.{List, [], ◌∷◌}
use native.Mathlib.Omega.{arith}
use lib.ListN.{length}
use borrow.Author.Tests.{eq-eqb, ne_eqb, lt-ltb, le-ltb}
use Rattle.lbp16.specs.Answer.{Answer, accepted, refused}
use Rattle.sserial.specs.Table.{Checked, laid}
use Rattle.sserial.specs.Table as table
use Rattle.sserial.specs.Calls.{Outcome, counted, indexed}
use Rattle.sserial.specs.declared.table.Direction.{Direction}
use Rattle.head.specs.Exports.{number_of, value_of, count_of, numbers_of}
use Rattle.head.specs.SserialExports.{table_left, export_table, or_refused, call_left, shown_in, export_field, exported, direction_of, export_call}
use Rattle.head.specs.declared.numbers.Numbers.{Numbers}

pub table-exported : (k : Checked) (a : Answer) (n : Numbers) → a ≡ counted k → n ≡ numbers_of a
    → table_left n.0 n.1 n.2 ≡ export_table k
unfolding counted export_table numbers_of number_of value_of count_of
table-exported (table.refused m) a n e g = rw (g, e) refl
table-exported (laid fs) a n e g = rw (g, e) refl

-- an export from its parts
pub numbered : {a b : ℕ} (left : List ℕ) → a ≡ b → call_left a left ≡ call_left b left
numbered left e = λ i. record { number = e i; left = left }

module _ (k : Checked) where
  pub or_40 : (i o : ℕ) → accepted (i ∷ o ∷ []) ≡ counted k → 40 ≡ number_of (or_refused k)
  unfolding counted or_refused number_of
  or_40 i o = go k
    where
      go : (k : Checked) → accepted (i ∷ o ∷ []) ≡ counted k → 40 ≡ number_of (or_refused k)
      go (table.refused n) e = let z : ◌≡◌ {A = ℕ} 0 1 = cc in absurd (omega arith)
      go (laid fs) e = refl

  pub or_refused_lem : (n p : ℕ) → refused n p ≡ counted k → n ≡ number_of (or_refused k)
  unfolding counted or_refused number_of
  or_refused_lem n p = go k
    where
      go : (k : Checked) → refused n p ≡ counted k → n ≡ number_of (or_refused k)
      go (table.refused m) e = cc
      go (laid fs) e = let z : ◌≡◌ {A = ℕ} 0 1 = cc in absurd (omega arith)

  -- room other than seven words, and seven
  module _ (index : ℕ) (room : List ℕ) where
    pub other-room : (length room ≡ 7 → ⊥) → export_field k index room ≡ call_left (number_of (or_refused k)) room
    unfolding export_field shown_in or_refused number_of
    other-room n = rw (ne_eqb (length room) 7 n) (go k)
      where
        go : (k : Checked) → shown_in (or_refused k) room ≡ call_left (number_of (or_refused k)) room
        go (table.refused m) = refl
        go (laid fs) = refl

    pub seven_words : length room ≡ 7 → export_field k index room ≡ shown_in (indexed k index) room
    unfolding export_field
    seven_words n = rw (eq-eqb (length room) 7 n) refl

  -- another direction than 0 and 1, and these two
  module _ (direction : ℕ) (lent : List ℕ) (call : Direction → Outcome) where
    pub no_call : 1 < direction → export_call k direction lent call ≡ call_left (number_of (or_refused k)) lent
    unfolding export_call
    no_call l = rw (lt-ltb 1 direction l) refl

    pub call_by : direction ≤ 1 → (d : Direction) → d ≡ direction_of direction → export_call k direction lent call ≡ exported (call d)
    unfolding export_call
    call_by l d e = rw (le-ltb 1 direction l, e) refl
