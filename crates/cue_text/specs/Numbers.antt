-- Numbers, spaces and names as words.
use Rattle.std.specs.Prelude.{ℕ, ◌+◌, ◌*◌, List, [], ◌∷◌, Bool, true, false, not, ◌&&◌, ◌||◌, cond, length, take, drop, eqb, ltb, Option, Some, None}
use Rattle.std.specs.Int.{is_in_range}
use Rattle.std.specs.List.{list_all}
use Rattle.text.specs.Number.{ascii}
use Rattle.text.specs.Find.{hex_value, same_bytes}

-- what a word says as a number
abbrev pub Value : Type 0
Value = Option ℕ

unfoldable pub all_digits : ℕ → List ℕ → Bool
all_digits base [] = true
all_digits base (c ∷ cs) = ltb (hex_value c) base && all_digits base cs

-- the highest digit first, behind a number n
unfoldable pub digits_from : ℕ → ℕ → List ℕ → ℕ
digits_from base n [] = n
digits_from base n (c ∷ cs) = digits_from base (base * n + hex_value c) cs

-- at least one digit, and digits alone
unfoldable pub digits_value : ℕ → List ℕ → Value
digits_value base w = cond (all_digits base w && not (eqb (length w) 0)) (Some (digits_from base 0 w)) None

-- decimal digits, or 0x or 0X and hexadecimal ones
unfoldable pub is_hex : List ℕ → Bool
is_hex w = same_bytes (take 2 w) (ascii "0x") || same_bytes (take 2 w) (ascii "0X")

unfoldable pub number_of : List ℕ → Value
number_of w = cond (is_hex w) (digits_value 16 (drop 2 w)) (digits_value 10 w)

unfoldable pub up_to : ℕ → Value → Value
up_to most None = None
up_to most (Some n) = cond (ltb most n) None (Some n)

unfoldable pub address_of : List ℕ → Value
address_of w = up_to 65535 (number_of w)

unfoldable pub value_of : List ℕ → Value
value_of w = up_to 4294967295 (number_of w)

-- a space by its name, or by its number
unfoldable pub space_of : List ℕ → Value
space_of w =
    cond (same_bytes w (ascii "registers")) (Some 0)
    (cond (same_bytes w (ascii "eeprom")) (Some 2)
    (cond (same_bytes w (ascii "status")) (Some 6)
    (cond (same_bytes w (ascii "information")) (Some 7) (up_to 255 (number_of w)))))

abbrev pub within : ℕ → ℕ → ℕ → Bool
within low high c = is_in_range low high c

-- A to Z and a to z
unfoldable pub is_letter : ℕ → Bool
is_letter c = within 65 90 c || within 97 122 c

-- letters, digits, `_`, `-` and `.`
unfoldable pub is_name_byte : ℕ → Bool
is_name_byte c = is_letter c || within 48 57 c || eqb c 95 || eqb c 45 || eqb c 46

abbrev pub all_name_bytes : List ℕ → Bool
all_name_bytes w = list_all is_name_byte w

unfoldable pub starts_with_letter : List ℕ → Bool
starts_with_letter [] = false
starts_with_letter (c ∷ cs) = is_letter c

-- the seven words that are no names
unfoldable pub is_keyword : List ℕ → Bool
is_keyword w =
    same_bytes w (ascii "read") || same_bytes w (ascii "write") || same_bytes w (ascii "name")
    || same_bytes w (ascii "registers")
    || same_bytes w (ascii "eeprom")
    || same_bytes w (ascii "status")
    || same_bytes w (ascii "information")

unfoldable pub is_name : List ℕ → Bool
is_name w = starts_with_letter w && all_name_bytes w && not (ltb 32 (length w)) && not (is_keyword w)
