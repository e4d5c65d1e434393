-- Texts taken apart.
use Rattle.std.specs.Prelude.{ℕ, suc, ◌-◌, List, [], ◌∷◌, Bool, ◌&&◌, cond, take, drop, eqb, ltb}
use lib.Pointwise.{pointwise}
use Rattle.text.specs.Number.{ascii}

-- how many bytes stand before the first b: all of them where there is none
unfoldable pub bytes_before : ℕ → List ℕ → ℕ
bytes_before b [] = 0
bytes_before b (c ∷ cs) = cond (eqb c b) 0 (suc (bytes_before b cs))

-- the string at a place of a memory, up to its NUL
unfoldable pub string_at : List ℕ → ℕ → List ℕ
string_at memory place = take (bytes_before 0 (drop place memory)) (drop place memory)

-- a to z as A to Z
unfoldable pub capital : ℕ → ℕ
capital c = cond (ltb 96 c && ltb c 123) (c - 32) c

-- the value of a hexadecimal digit of either case; 16 for any other byte
unfoldable pub hex_value : ℕ → ℕ
hex_value c = bytes_before (capital c) (ascii "0123456789ABCDEF")

-- whether two texts are the same
unfoldable pub same_bytes : List ℕ → List ℕ → Bool
same_bytes a b = pointwise eqb a b
