-- What head_independent returns and leaves.
use Rattle.std.specs.Prelude.{ℕ}
use Rattle.independent.specs.Independent.{Compared}

abbrev pub two_lists_left : ℕ → ℕ → ℕ → Compared
two_lists_left number list place = record { number = number; list = list; place = place }
