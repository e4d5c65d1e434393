-- Hexadecimal text: two digits of either case for each byte, which stand together; blanks, tabs and ends of lines may stand between bytes.
use Rattle.std.specs.Prelude.{ℕ, zero, suc, ◌+◌, ◌*◌, List, [], ◌∷◌, ◌++◌, ◌≡◌, Bool, false, ◌||◌, cond, length, get_or, drop, eqb, ltb}
use Rattle.std.specs.Prelude.{Option, None, Some, Result, Ok, Err}
use Rattle.text.specs.Find.{hex_value}
use Rattle.text.specs.Room.{filled, put_at}
use Rattle.why_output.specs.declared.hex.NoDigit.{NoDigit}

-- What a text says: its bytes, or the place where a digit should stand and none does.
pub data Hex : Type 0 where
  bytes : List ℕ → Hex
  bad : ℕ → Hex

-- a blank, a tab, a newline or a carriage return
unfoldable pub is_blank : ℕ → Bool
is_blank c = eqb c 32 || (eqb c 9 || (eqb c 10 || eqb c 13))

-- What stands at a place: a blank, a byte, or no digit where one should.
abbrev pub Turn : Type 0
Turn = Result (Option ℕ) NoDigit

abbrev pub no_digit : ℕ → Turn
no_digit at = Err (record { place = at })

-- from the bytes `rest` that begin there. No byte has the value of a digit behind the end.
unfoldable pub turn_at : ℕ → List ℕ → Turn
turn_at at rest =
    let high = hex_value (get_or rest 0 0) in
    let low = hex_value (get_or rest 1 0) in
    cond (is_blank (get_or rest 0 0)) (Ok None)
    (cond (ltb high 16) (cond (ltb low 16) (Ok (Some (16 * high + low))) (no_digit (at + 1))) (no_digit at))

-- the bytes of the text that a turn takes, and the byte that it reads
unfoldable pub taken_by : Turn → ℕ
taken_by (Ok None) = 1
taken_by (Ok (Some b)) = 2
taken_by (Err e) = 0

unfoldable pub read_by : Turn → List ℕ
read_by (Ok None) = []
read_by (Ok (Some b)) = b ∷ []
read_by (Err e) = []

unfoldable pub hex_at : Turn → Hex → Hex
hex_at (Ok t) more = more
hex_at (Err e) more = bad e.place

-- `fuel` bounds the turns; as many as there are bytes is enough. `read`: the bytes so far.
unfoldable pub hex_from : ℕ → List ℕ → ℕ → List ℕ → Hex
hex_from zero read at rest = bytes read
hex_from (suc fuel) read at [] = bytes read
hex_from (suc fuel) read at (c ∷ cs) =
    let t = turn_at at (c ∷ cs) in
    hex_at t (hex_from fuel (read ++ read_by t) (at + taken_by t) (drop (taken_by t) (c ∷ cs)))

unfoldable pub hex_of : List ℕ → Hex
hex_of text = hex_from (length text) [] 0 text

-- A text with a byte in it may be meant so.
unfoldable pub has_byte : Hex → Bool
has_byte (bytes read) = ltb 0 (length read)
has_byte (bad k) = false

-- What the code answers and leaves: the place, or the bytes put into a room.
unfoldable pub Reads : Hex → Result ℕ NoDigit → List ℕ → List ℕ → Type 0
Reads (bytes read) (Ok n) room left = filled n left ≡ put_at read 0 room
Reads (bytes read) (Err e) room left = ⊥
Reads (bad at) (Ok n) room left = ⊥
Reads (bad at) (Err e) room left = e.place ≡ at
