-- Fields of one direction in a channel's three interface registers, read as one number of 96 bits: from its low bit upward, in
-- table order.
use Rattle.std.specs.Prelude.{ℕ, zero, suc, ◌+◌, ◌-◌, ◌*◌, ◌/◌, ◌%◌, ◌^◌, List, [], ◌∷◌, Bool, true, false, ◌||◌, ◌&&◌, cond, eqb, ltb, leb}
use Rattle.sserial.specs.declared.table.Field.{Field}

-- words as one number, and the lowest k words of a number
unfoldable pub joined : List ℕ → ℕ
joined [] = 0
joined (w ∷ ws) = w + 2 ^ 32 * joined ws

unfoldable pub words_of : ℕ → ℕ → List ℕ
words_of zero n = []
words_of (suc k) n = n % 2 ^ 32 ∷ words_of k (n / 2 ^ 32)

-- signed and nonvolatile signed
unfoldable pub is_signed : Field → Bool
is_signed f = eqb f.kind 3 || eqb f.kind 5

-- A value is 64 bits. Of a signed field it is the two's complement of the field's width, sign-extended, else its plain bits.
unfoldable pub value_of : Field → ℕ → ℕ
value_of f b = cond (is_signed f && leb (2 ^ (f.width - 1)) b) (2 ^ 64 - 2 ^ f.width + b) b

unfoldable pub bits_of : Field → ℕ → ℕ
bits_of f v = v % 2 ^ f.width

-- below 2 to the width; of a signed field from -(2 ^ (width - 1)) to 2 ^ (width - 1) - 1
unfoldable pub in_range : Field → ℕ → Bool
in_range f v =
    cond (is_signed f) (ltb v (2 ^ (f.width - 1)) || leb (2 ^ 64 - 2 ^ (f.width - 1)) v) (ltb v (2 ^ f.width))

unfoldable pub packed : List Field → List ℕ → ℕ
packed [] vs = 0
packed (f ∷ fs) [] = 0
packed (f ∷ fs) (v ∷ vs) = bits_of f v + 2 ^ f.width * packed fs vs

unfoldable pub unpacked : List Field → ℕ → List ℕ
unpacked [] n = []
unpacked (f ∷ fs) n = value_of f (bits_of f n) ∷ unpacked fs (n / 2 ^ f.width)

-- exactly one value for each field, each in its range
unfoldable pub fitting : List Field → List ℕ → Bool
fitting [] [] = true
fitting [] (v ∷ vs) = false
fitting (f ∷ fs) [] = false
fitting (f ∷ fs) (v ∷ vs) = in_range f v && fitting fs vs
