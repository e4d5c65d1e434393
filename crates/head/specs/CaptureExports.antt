-- What head_capture returns and leaves.
use Rattle.std.specs.Prelude.{ℕ, ◌≡◌, List}
use Rattle.capture.specs.Capture.{Captured, captured}
use Rattle.capture.specs.Written.{Sent, read_back, WrittenOf}
use Rattle.head.specs.Exports.{number_of, value_of, count_of}

pub record CaptureExport : Type 0 where
  pub number : ℕ
  pub bytes : ℕ
  pub packets : ℕ
  pub room : List ℕ
  pub frames : List ℕ

abbrev pub capture_left : ℕ → ℕ → ℕ → List ℕ → List ℕ → CaptureExport
capture_left number bytes packets room frames =
    record { number = number; bytes = bytes; packets = packets; room = room; frames = frames }

unfoldable pub of_captured : Captured → CaptureExport
of_captured s =
    capture_left (number_of s.answer) (value_of s.answer) (count_of s.answer) s.room s.frames

unfoldable pub export_capture : List ℕ → List ℕ → List ℕ → CaptureExport
export_capture capture room frames = of_captured (captured capture room frames)

-- What head_capture promises of a capture that was written of datagrams in turn.
unfoldable pub SameExport : List ℕ → List ℕ → List ℕ → CaptureExport → Type 0
SameExport capture room frames left =
    (show : List Sent) → WrittenOf show capture room frames → left ≡ of_captured (read_back show room frames)
