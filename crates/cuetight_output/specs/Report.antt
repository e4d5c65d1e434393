-- What the planning program writes for the bytes that it is given.
use Rattle.std.specs.Prelude.{ℕ, ◌≡◌, List, [], ◌∷◌, Bool, true, false, length, get_or, ltb}
use Rattle.lbp16.specs.Answer.{Answer}
use Rattle.cue.specs.Compile.{compiled}
use Rattle.planner.specs.Planner.{Tighter}
use Rattle.text.specs.Room.{filled, text_left}
use Rattle.text.specs.Line.{refused_line, too_long_line}
use Rattle.cuec_output.specs.Report.{most_bytes}

-- n bytes at the front of the room: packets that the checker accepts, no longer than the compiler's, of `most` bytes
pub record Packets (list before : List ℕ) (most n : ℕ) (after : List ℕ) : Type 0 where
  pub count : ℕ
  pub tighter : Tighter list before most (record { answer = Answer.accepted (n ∷ count ∷ []); room = after })

-- By whether the list is too long, and by the compiler's answer: a line where it is or the compiler refuses, else packets.
unfoldable pub ReportedBy : Bool → Answer → List ℕ → List ℕ → ℕ → List ℕ → Type 0
ReportedBy true answer list before n after = filled n after ≡ text_left too_long_line before
ReportedBy false (Answer.refused m k) list before n after = filled n after ≡ text_left (refused_line m k) before
ReportedBy false (Answer.accepted values) list before n after = Packets list before (get_or values 0 0) n after

unfoldable pub Reported : List ℕ → List ℕ → ℕ → List ℕ → Type 0
Reported list before n after =
    ReportedBy (ltb most_bytes (length list)) (compiled list before).answer list before n after
