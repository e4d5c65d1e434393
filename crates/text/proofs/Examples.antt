-- Numbers as text, computed.
use mathlib.Core.Path.{◌≡◌, refl}
use mathlib.Core.List.{[], ◌∷◌}
use mathlib.Core.Bool.{Bool, true}
use Rattle.text.specs.Number
use Rattle.text.specs.Number.{ascii, decimal, signed_decimal, hexadecimal, bytes_of_hex}

-- opens every definition that the examples compute with
all : Bool
unfolding Number.ascii Number.digit Number.decimal_from Number.decimal Number.signed_decimal Number.hex_digit Number.hexadecimal
    Number.bytes_of_hex
all = true

pub most-records : decimal 100000 ≡ ascii "100000"
unfolding all
most-records = refl

pub minus_one : signed_decimal 0xFFFFFFFFFFFFFFFF ≡ ascii "-1"
unfolding all
minus_one = refl

pub word-digits : hexadecimal 8 0xC0A80001 ≡ ascii "C0A80001"
unfolding all
word-digits = refl

pub last_digits : hexadecimal 4 0x12345 ≡ ascii "2345"
unfolding all
last_digits = refl

pub two_bytes : bytes_of_hex (0x0A ∷ 0xFF ∷ []) ≡ ascii " 0A FF"
unfolding all
two_bytes = refl
