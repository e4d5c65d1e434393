-- The reading of a card's field, with type, width and bounds as the card's process table has them.
use Rattle.std.specs.Prelude.{ℕ, List, [], ◌∷◌, drop}
use Rattle.sserial.specs.Table.{Checked}
use Rattle.sserial.specs.declared.table.Field.{Field}
use Rattle.panel.specs.Reading.{Shown, reading}

-- the first field's; 40 if there is none
unfoldable pub first_reading : List Field → ℕ → Shown
first_reading [] value = Shown.refused 40 0
first_reading (f ∷ fs) value = reading f.kind f.width value f.minimum f.maximum

-- the index-th field's; a table that is refused has no readings
unfoldable pub field_reading : Checked → ℕ → ℕ → Shown
field_reading (Checked.refused n) index value = Shown.refused n 0
field_reading (Checked.laid fs) index value = first_reading (drop index fs) value
