-- What head_list_why returns and leaves.
use Rattle.std.specs.Prelude.{ℕ}
use Rattle.list_reason.specs.ListReason.{ListWhy}

abbrev pub list_why_left : ℕ → ℕ → ℕ → ℕ → ListWhy
list_why_left number place offset cause = record { number = number; place = place; offset = offset; cause = cause }
