-- Laws of what head_part returns and leaves.
use Prim.Native.Nat.{ℕ}
use mathlib.Core.Path.{◌≡◌, ap}
use mathlib.Core.List.{List}
use Rattle.packet.specs.Verdict.{verdict_listed}
use Rattle.std.specs.Prelude.{Result}
use Rattle.lbp16.specs.declared.Refusal.{Refusal}
use Rattle.parts.specs.Parts.{PartCall}
use Rattle.parts.specs.Parts as parts
use Rattle.head.specs.Exports.{numbers_of}
use Rattle.head.specs.PartsExports.{part_left, of_part}
use Rattle.head.specs.declared.numbers.Numbers.{Numbers}

-- a call's answer as numbers
pub part_left_lem : (c : PartCall) (a : Result ℕ Refusal) (n : Numbers) (taken : ℕ) (state room : List ℕ)
    → parts.part_left a taken state room ≡ c → n ≡ numbers_of (verdict_listed a)
    → part_left n.0 taken n.1 state room ≡ of_part c
unfolding of_part parts.part_left numbers_of
part_left_lem c a n taken state room e g = rw g (ap of_part e)
