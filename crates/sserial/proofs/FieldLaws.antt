-- A table's fields one by one.
use Prim.Native.Nat.{ℕ, zero, suc, ◌+◌, ◌*◌, ◌≤◌, ◌<◌}
use mathlib.Core.Path.{◌≡◌, refl, sym, ◌∙◌}
use mathlib.Core.Bool.{Bool, true, false}
use mathlib.Core.List.{List, [], ◌∷◌}
use mathlib.Core.Logic.{◌⊎◌, ⊎_elim}
use native.Mathlib.Omega.{arith}
use native.Mathlib.Numerals.{add-one}
use lib.ListN.{length, drop, length-drop}
use lib.Seq.{drop-cons, drop-nil}
use Rattle.std.proofs.lemmas.Option.{none-some, same_Some}
use lib.Dec.{ltb}
use borrow.Author.Tests.{ltb-true, ltb-false}
use Rattle.std.specs.Prelude.{slice_get, Some, None}
use Rattle.lbp16.specs.Answer.{accepted, refused}
use Rattle.sserial.specs.Table.{Table, unreadable, fields, checked_at, stands_in, directed, table_from, table_at, with_field, with_entry, entry_of}
use Rattle.sserial.specs.Calls.{front, indexed, shown, counted}
use Rattle.sserial.specs.Inside.{entry_at, met, met_from, fields_met}
use Rattle.sserial.specs.declared.table.Field.{Field}
use Rattle.sserial.specs.declared.table.Entry.{Entry}
use Rattle.sserial.specs.declared.table.Entry.TheVariants.{End, Unreadable, Mode}
use Rattle.sserial.specs.declared.table.Direction.{Direction}
use Rattle.sserial.proofs.TableLaws.{entry-cut, entry_read}
use Rattle.sserial.proofs.CheckedLaws.{Laid, laid-checked, refused-checked}

-- the fields from an entry on are that entry's and those after it
pub fields-next : (m : List ℕ) (at : ℕ) → fields_met m at ≡ met (entry_at m at) (fields_met m (at + 2))
unfolding fields_met met_from met
fields-next m at = go (ltb (length m) (at + 2)) refl
  where
    short : (l : List ℕ) → length l ≤ 1 → met_from m l ≡ []
    short [] h = refl
    short (a ∷ []) h = refl
    short (a ∷ b ∷ l) h = absurd (omega arith)

    go : (t : Bool) → ltb (length m) (at + 2) ≡ t → met_from m (drop at m) ≡ met (entry_at m at) (met_from m (drop (at + 2) m))
    go true e =
        let h : length m < at + 2 = ltb-true _ _ e in
        let d = length-drop at m in
        rw (entry-cut m at h) (short (drop at m) (omega arith))
    go false e =
        let h : at + 2 ≤ length m = ltb-false _ _ e in
        let s : suc (suc at) ≡ at + 2 = omega arith in
        let a : at < length m = omega arith in
        let b : suc at < length m = omega arith in
        rw (drop-cons m at 0 a, drop-cons m (suc at) 0 b, s, entry_read m at h) (rw add-one refl)

-- the fields, where the entry at hand is e
module _ (m : List ℕ) (at : ℕ) (e : Entry) (found : e ≡ entry_at m at) where
  here : fields_met m at ≡ met e (fields_met m (at + 2))
  here = fields-next m at ∙ rw (← found) refl

  pub met_none : (e ≡ End) ⊎ (e ≡ Unreadable) → fields_met m at ≡ []
  unfolding met
  met_none k = here ∙ ⊎_elim (λ q. rw q refl) (λ q. rw q refl) k

  pub met_mode : e ≡ Mode → fields_met m at ≡ fields_met m (at + 2)
  unfolding met
  met_mode k = here ∙ rw k refl

  pub met_field : (f : Field) → e ≡ Entry.Field f → fields_met m at ≡ f ∷ fields_met m (at + 2)
  unfolding met
  met_field f k = here ∙ rw k refl

-- of one direction, the first of the fields ahead
pub directed-taken : (d : Direction) (f : Field) (fs gs : List Field) → gs ≡ f ∷ fs → stands_in d f ≡ true → directed d gs ≡ f ∷ directed d fs
unfolding directed
directed-taken d f fs gs e s = rw (e, s) refl

pub directed_passed : (d : Direction) (f : Field) (fs gs : List Field) → gs ≡ f ∷ fs → stands_in d f ≡ false → directed d gs ≡ directed d fs
unfolding directed
directed_passed d f fs gs e s = rw (e, s) refl

pub directed-none : (d : Direction) (gs : List Field) → gs ≡ [] → directed d gs ≡ []
unfolding directed
directed-none d gs e = rw e refl

-- all fields of a table that is readable
no_fields : (fs : List Field) → unreadable ≡ fields fs → ⊥
no_fields fs e = let z : ◌≡◌ {A = ℕ} 0 1 = cc in omega arith

met-all : (m bs : List ℕ) (fs : List Field) → table_from m bs ≡ fields fs → met_from m bs ≡ fs
unfolding table_from met_from with_entry with_field met
met-all m [] fs e = absurd (no_fields fs e)
met-all m (a ∷ []) fs e = absurd (no_fields fs e)
met-all m (a ∷ b ∷ rest) fs e = go (entry_of m (a + 256 * b)) (table_from m rest) (λ gs d. met-all m rest gs d) e
  where
    go : (n : Entry) (t : Table) → ((gs : List Field) → t ≡ fields gs → met_from m rest ≡ gs) → with_entry n t ≡ fields fs → met n (met_from m rest) ≡ fs
    go End t d k = cc
    go Unreadable t d k = absurd (no_fields fs k)
    go Mode t d k = d fs k
    go (Entry.Field f) unreadable d k = absurd (no_fields fs k)
    go (Entry.Field f) (fields gs) d k = let r = d gs refl in cc

pub laid-met : (m : List ℕ) (at : ℕ) (l : Laid (table_at m at)) → fields_met m at ≡ l.fs
unfolding fields_met table_at
laid-met m at l = met-all m (drop at m) l.fs l.here

-- the field of an index, and none
pub front_some : (fs : List Field) (index : ℕ) (f : Field) → slice_get fs index ≡ Some f → accepted (shown f) ≡ front (drop index fs)
unfolding front
front_some [] index f e = absurd (none-some _ e)
front_some (x ∷ fs) zero f e = let k = same_Some _ _ e in rw k refl
front_some (x ∷ fs) (suc index) f e = front_some fs index f e

pub front_none : (fs : List Field) (index : ℕ) → slice_get fs index ≡ None → refused 40 0 ≡ front (drop index fs)
unfolding front
front_none [] index e = rw drop-nil refl
front_none (x ∷ fs) zero e = absurd (none-some _ (sym e))
front_none (x ∷ fs) (suc index) e = front_none fs index e

-- the answer by the table's check
module _ (m : List ℕ) (table index : ℕ) where
  pub field-refused : (n p : ℕ) → refused n p ≡ counted (checked_at m table) → refused n p ≡ indexed (checked_at m table) index
  unfolding indexed
  field-refused n p e =
      let r = refused-checked (checked_at m table) n p e in
      rw (r.0, r.1) refl

  pub field_found : Laid (table_at m table) → front (drop index (fields_met m table)) ≡ indexed (checked_at m table) index
  unfolding indexed checked_at
  field_found l = rw (laid-met m table l, laid-checked (table_at m table) l) refl
