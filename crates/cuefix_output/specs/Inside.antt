-- The inside of private functions' contracts.
use Rattle.std.specs.Prelude.{ℕ, ◌≤◌, List, ◌≡◌, length}
use Rattle.std.proofs.lemmas.List.Edits.{sets}
use Rattle.salvage.specs.Salvage.{scan, counted, output, logged}
use Rattle.salvage.specs.declared.scan.Counts.{Counts}
use Rattle.cuefix_output.specs.Account.{most_bytes, log_numbers}

-- A list that is taken, and rooms that suffice for it.
pub record Taken (list room log : List ℕ) : Type 0 where
  pub few : length list ≤ most_bytes
  pub wide : most_bytes ≤ length room
  pub deep : log_numbers ≤ length log

-- The list saved in both rooms, and what was counted.
pub record Saved (list room log room₁ log₁ : List ℕ) (c : Counts) : Type 0 where
  pub counts : c ≡ counted (scan list)
  pub room-is : room₁ ≡ sets room 0 (output list)
  pub log_is : log₁ ≡ sets log 0 (logged list)
