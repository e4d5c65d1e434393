-- Texts, and numbers and bytes as text, in ASCII.
use Rattle.std.specs.Prelude.{ℕ, zero, suc, ◌+◌, ◌-◌, ◌/◌, ◌%◌, ◌^◌, List, [], ◌∷◌, ◌++◌, cond, ltb}
use Prim.Native.Char.{code}
use Prim.Native.String as string

-- the codes of a text's characters
unfoldable pub ascii : string.String → List ℕ
ascii string.[] = []
ascii (string.◌∷◌ c s) = code c ∷ ascii s

unfoldable pub digit : ℕ → ℕ
digit d = 48 + d

-- `fuel` bounds the digits before the last; the number itself is enough.
unfoldable pub decimal_from : ℕ → ℕ → List ℕ
decimal_from zero n = digit (n % 10) ∷ []
decimal_from (suc fuel) n = cond (ltb n 10) (digit n ∷ []) (decimal_from fuel (n / 10) ++ (digit (n % 10) ∷ []))

-- a number's decimal digits, the highest first; 0 is one digit
unfoldable pub decimal : ℕ → List ℕ
decimal n = decimal_from n n

-- the number that 64 bits mean as two's complement
unfoldable pub signed_decimal : ℕ → List ℕ
signed_decimal n = cond (ltb n (2 ^ 63)) (decimal n) (ascii "-" ++ decimal (2 ^ 64 - n))

-- 0 to 9, and A to F
unfoldable pub hex_digit : ℕ → ℕ
hex_digit d = cond (ltb d 10) (48 + d) (55 + d)

-- a number's last k hexadecimal digits, the highest first
unfoldable pub hexadecimal : ℕ → ℕ → List ℕ
hexadecimal zero n = []
hexadecimal (suc k) n = hex_digit (n / 16 ^ k % 16) ∷ hexadecimal k n

-- bytes as two digits each, behind a space
unfoldable pub bytes_of_hex : List ℕ → List ℕ
bytes_of_hex [] = []
bytes_of_hex (b ∷ bs) = ascii " " ++ hexadecimal 2 b ++ bytes_of_hex bs
