-- What head_salvage returns and leaves.
use Rattle.std.specs.Prelude.{ℕ, List}
use Rattle.salvage.specs.Salvage.{Salvaged, salvaged}
use Rattle.head.specs.Exports.{number_of, value_of, count_of}

pub record SalvageExport : Type 0 where
  pub number : ℕ
  pub bytes : ℕ
  pub entries : ℕ
  pub room : List ℕ
  pub log : List ℕ

abbrev pub salvage_left : ℕ → ℕ → ℕ → List ℕ → List ℕ → SalvageExport
salvage_left number bytes entries room log =
    record { number = number; bytes = bytes; entries = entries; room = room; log = log }

unfoldable pub of_salvaged : Salvaged → SalvageExport
of_salvaged s =
    salvage_left (number_of s.answer) (value_of s.answer) (count_of s.answer) s.room s.log

unfoldable pub export_salvage : List ℕ → List ℕ → List ℕ → SalvageExport
export_salvage list room log = of_salvaged (salvaged list room log)
