-- Laws of reading a table's records.
use Prim.Native.Nat.{ℕ, ◌+◌, ◌≤◌, ◌<◌, max}
use mathlib.Core.Path.{◌≡◌, refl, sym, ap, ◌∙◌}
use mathlib.Core.Bool.{Bool, true, false, ◌&&◌, cond}
use mathlib.Core.List.{List}
use native.Mathlib.Omega.{arith}
use native.Mathlib.Decide.{dec_le}
use native.Mathlib.Numerals.{add-one}
use lib.ListN.{length, get_or, drop_of_length-le}
use lib.Seq.{drop-cons}
use lib.Dec.{ltb}
use borrow.Author.Tests.{ltb-true, ltb-false, eq-eqb, ne_eqb, lt-ltb, le-ltb}
use Rattle.sserial.specs.Table.{nul_of, name_place, field_of, is_direction, sound_field, sound_mode, pair_at, record_at, entry_of}
use Rattle.sserial.specs.Inside.{field_record, mode_record, entry_at}
use Rattle.sserial.specs.declared.table.Entry.{Entry}
use Rattle.sserial.specs.declared.table.Entry.TheVariants.{End, Unreadable, Mode}

-- the string that ends here, that goes on, and that the memory's end cuts
module _ (memory : List ℕ) (i : ℕ) where
  pub nul_here : i < length memory → get_or memory i 0 ≡ 0 → nul_of memory i ≡ i
  unfolding nul_of
  nul_here h e = rw (drop-cons memory i 0 h, eq-eqb _ _ e) (omega arith)

  pub nul_later : i < length memory → (get_or memory i 0 ≡ 0 → ⊥) → nul_of memory (i + 1) ≡ nul_of memory i
  unfolding nul_of
  nul_later h e = rw (drop-cons memory i 0 h, ne_eqb _ _ e, add-one) (omega arith)

  pub nul_past : length memory ≤ i → nul_of memory i ≡ i
  unfolding nul_of
  nul_past h = rw (drop_of_length-le memory h) (omega arith)

  -- a string ends where it begins or later
  pub nul_from : i ≤ nul_of memory i
  unfolding nul_of
  nul_from = omega arith

-- where a walk from `at` on has found none up to the memory's end
pub nul_none : (memory : List ℕ) (at i : ℕ) → (at ≤ length memory → i ≤ length memory) → length memory ≤ i → nul_of memory i ≡ nul_of memory at
    → max at (length memory) ≡ nul_of memory at
nul_none memory at i within past e = go (dec_le at (length memory))
  where
    go : Dec (at ≤ length memory) → max at (length memory) ≡ nul_of memory at
    go (yes h) = let n = nul_past memory i past in omega (arith, within h)
    go (no h) = let n = nul_past memory at (omega arith) in omega arith

-- what a record is found to be, by the tests that the code makes
module _ (m : List ℕ) (p : ℕ) where
  pub mode-cut : length m ≤ nul_of m (p + 4) → mode_record m p ≡ Unreadable
  unfolding mode_record sound_mode
  mode-cut h = rw (le-ltb _ _ h)

  pub mode-read : nul_of m (p + 4) < length m → mode_record m p ≡ cond (ltb (get_or m (p + 2) 0) 2) Mode Unreadable
  unfolding mode_record sound_mode
  mode-read h = rw (lt-ltb _ _ h)

  -- r₁ and r₂ are the ends of unit and name
  module _ (r₁ r₂ : ℕ) (e₁ : r₁ ≡ nul_of m (p + 14)) (e₂ : r₂ ≡ nul_of m (r₁ + 1)) where
    name-end : nul_of m (name_place m p) ≡ r₂
    unfolding name_place
    name-end = rw (← e₁) (sym e₂)

    pub name-cut : length m ≤ r₂ → field_record m p ≡ Unreadable
    unfolding field_record sound_field
    name-cut h = rw (name-end, le-ltb _ _ h)

    pub field-lent : r₂ < length m → p + 14 < length m
    field-lent h = let n = nul_from m (p + 14) in let k = nul_from m (r₁ + 1) in omega arith

    module _ (h : r₂ < length m) (t : Bool) (e : t ≡ is_direction (get_or m (p + 3) 0)) where
      pub unlisted : ltb (get_or m (p + 2) 0) 8 && t ≡ false → field_record m p ≡ Unreadable
      unfolding field_record sound_field
      unlisted n = rw (name-end, lt-ltb _ _ h, ← e, n)

      pub listed : ltb (get_or m (p + 2) 0) 8 && t ≡ true → field_record m p ≡ Entry.Field (field_of m p)
      unfolding field_record sound_field
      listed n = rw (name-end, lt-ltb _ _ h, ← e, n)

abbrev pub readable : Entry → Bool
readable End = true
readable Unreadable = false
readable Mode = true
readable (Entry.Field f) = true

-- an entry that is cut, the table's end, and an entry with its record
module _ (m : List ℕ) (at : ℕ) where
  pub entry-cut : length m < at + 2 → entry_at m at ≡ Unreadable
  unfolding entry_at
  entry-cut h = rw (lt-ltb _ _ h)

  pub entry_read : at + 2 ≤ length m → entry_at m at ≡ entry_of m (pair_at m at)
  unfolding entry_at
  entry_read h = rw (le-ltb _ _ h)

  module _ (h : at + 2 ≤ length m) (p : ℕ) (e : p ≡ pair_at m at) where
    pub entry-end : p ≡ 0 → entry_at m at ≡ End
    unfolding entry_of
    entry-end z = rw (entry_read h, ← e, eq-eqb _ _ z)

    pub entry_record : (p ≡ 0 → ⊥) → entry_at m at ≡ record_at m p
    unfolding entry_of
    entry_record z = rw (entry_read h, ← e, ne_eqb _ _ z)

  -- an entry that is not unreadable is lent
  pub entry-lent : (e : Entry) → e ≡ entry_at m at → readable e ≡ true → at + 2 ≤ length m
  entry-lent e d r = go (ltb (length m) (at + 2)) refl
    where
      go : (t : Bool) → ltb (length m) (at + 2) ≡ t → at + 2 ≤ length m
      go true k =
          let u : readable e ≡ false = ap readable (d ∙ entry-cut (ltb-true _ _ k)) in
          let z : ◌≡◌ {A = ℕ} 0 1 = cc in
          absurd (omega arith)
      go false k = ltb-false _ _ k
