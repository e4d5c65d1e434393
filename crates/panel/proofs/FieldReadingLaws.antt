-- From the answer about a card's field to the field's reading.
use Prim.Native.Nat.{ℕ}
use mathlib.Core.Path.{◌≡◌, refl, sym}
use mathlib.Core.List.{List, [], ◌∷◌}
use native.Mathlib.Omega.{arith}
use lib.ListN.{drop}
use Rattle.lbp16.specs.Answer.{Answer, accepted}
use Rattle.sserial.specs.Table.{Checked}
use Rattle.sserial.specs.Calls as Calls
use Rattle.sserial.specs.Calls.{front, indexed}
use Rattle.sserial.specs.declared.table.Field.{Field}
use Rattle.panel.specs.Reading.{Shown, reading}
use Rattle.panel.specs.FieldReading.{first_reading, field_reading}

never : {n k : ℕ} {vs : List ℕ} → accepted vs ≡ Answer.refused n k → ⊥
never h = let z : ◌≡◌ {A = ℕ} 0 1 = cc in omega arith

module _ (value : ℕ) where
  of-front : (f : Field) (fs : List Field) → accepted (Calls.shown f) ≡ front fs
      → reading f.kind f.width value f.minimum f.maximum ≡ first_reading fs value
  unfolding front Calls.shown first_reading
  of-front f [] h = absurd (never h)
  of-front f (g ∷ fs) h =
      let w : f.width ≡ g.width = cc in
      let k : f.kind ≡ g.kind = cc in
      let lo : f.minimum ≡ g.minimum = cc in
      let hi : f.maximum ≡ g.maximum = cc in
      rw (w, k, lo, hi) refl

  pub of_field : (c : Checked) (index : ℕ) (f : Field) → accepted (Calls.shown f) ≡ indexed c index
      → reading f.kind f.width value f.minimum f.maximum ≡ field_reading c index value
  unfolding indexed field_reading
  of_field (Checked.refused n) index f h = absurd (never h)
  of_field (Checked.laid fs) index f h = of-front f (drop index fs) h

  front-refused : (n k : ℕ) (fs : List Field) → Answer.refused n k ≡ front fs → Shown.refused n k ≡ first_reading fs value
  unfolding front first_reading
  front-refused n k [] h =
      let a : n ≡ 40 = cc in
      let b : k ≡ 0 = cc in
      rw (a, b) refl
  front-refused n k (f ∷ fs) h = absurd (never (sym h))

  pub of-refusal : (c : Checked) (index n k : ℕ) → Answer.refused n k ≡ indexed c index
      → Shown.refused n k ≡ field_reading c index value
  unfolding indexed field_reading
  of-refusal (Checked.refused m) index n k h =
      let a : n ≡ m = cc in
      let b : k ≡ 0 = cc in
      rw (a, b) refl
  of-refusal (Checked.laid fs) index n k h = front-refused n k (drop index fs) h
