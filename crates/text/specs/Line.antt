-- Lines that programs write.
use Rattle.std.specs.Prelude.{ℕ, List, ◌++◌}
use Rattle.text.specs.Number.{ascii, decimal}

-- a number behind its text
unfoldable pub numbered : List ℕ → ℕ → List ℕ
numbered before n = before ++ decimal n

-- a line of two numbers, each behind its text
unfoldable pub pair_line : List ℕ → ℕ → List ℕ → ℕ → List ℕ
pair_line first n second k = numbered first n ++ numbered second k ++ ascii "\n"

-- a refusal's number and place
unfoldable pub refused_line : ℕ → ℕ → List ℕ
refused_line n k = pair_line (ascii "refused ") n (ascii " at ") k

-- an input above the most bytes that a program takes
unfoldable pub too_long_line : List ℕ
too_long_line = ascii "too long\n"
