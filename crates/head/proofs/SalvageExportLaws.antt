-- What head_salvage returns and leaves is what the salvage does.
use Prim.Native.Nat.{ℕ}
use mathlib.Core.Path.{◌≡◌, ap}
use mathlib.Core.List.{List}
use Rattle.salvage.specs.Salvage.{Salvaged, salvage_listed, left}
use Rattle.std.specs.Prelude.{Result}
use Rattle.lbp16.specs.declared.Refusal.{Refusal}
use Rattle.salvage.specs.declared.Kept.{Kept}
use Rattle.head.specs.Exports.{numbers_of}
use Rattle.head.specs.SalvageExports.{salvage_left, of_salvaged}
use Rattle.head.specs.declared.numbers.Numbers.{Numbers}

pub salvage_left_lem : (a : Result Kept Refusal) (room log : List ℕ) (s : Salvaged) (n : Numbers) → left a room log ≡ s
    → n ≡ numbers_of (salvage_listed a) → salvage_left n.0 n.1 n.2 room log ≡ of_salvaged s
unfolding of_salvaged numbers_of
salvage_left_lem a room log s n e g = rw g (ap of_salvaged e)
