-- What the panel's exports return and leave.
use Rattle.std.specs.Prelude.{ℕ}
use Rattle.std.specs.Float.{binary32}
use Rattle.std.specs.Float.Ieee.{to_bits}
use Rattle.panel.specs.Masks.{started}
use Rattle.panel.specs.Reading.{Shown, shown, refused, reading}
use Rattle.panel.specs.declared.masks.Tally.{Tally}
use Rattle.head.specs.Exports.{Given, given, number_of, word_left}

-- head_panel_start: the number returned, and the mask that stands in the place lent
unfoldable pub export_start : ℕ → ℕ → ℕ → Given
export_start asked running mask = let a = started asked running in given (number_of a) (word_left a mask)

-- the three numbers that head_panel_report leaves
abbrev pub tally_left : ℕ → ℕ → ℕ → Tally
tally_left asked failed lowest = record { asked = asked; failed = failed; lowest = lowest }

-- the number of a reading that is refused, and its bits or those that stood in the place lent
unfoldable pub reading_number : Shown → ℕ
reading_number (shown x) = 0
reading_number (refused number place) = number

unfoldable pub bits_left : Shown → ℕ → ℕ
bits_left (shown x) bits = to_bits binary32 x
bits_left (refused number place) bits = bits

-- head_panel_reading
unfoldable pub export_reading : ℕ → ℕ → ℕ → ℕ → ℕ → ℕ → Given
export_reading kind width value minimum maximum bits =
    let a = reading kind width value minimum maximum in given (reading_number a) (bits_left a bits)
