-- What head_capture returns and leaves is what reading the capture does.
use Prim.Native.Nat.{ℕ}
use mathlib.Core.Path.{◌≡◌, ap, ◌∙◌}
use mathlib.Core.List.{List}
use Rattle.capture.specs.Capture.{Captured, capture_listed, left}
use Rattle.capture.specs.Written.{SameRecording}
use Rattle.std.specs.Prelude.{Result}
use Rattle.lbp16.specs.declared.Refusal.{Refusal}
use Rattle.capture.specs.declared.Recorded.{Recorded}
use Rattle.capture.proofs.WrittenLaws.{same_recording}
use Rattle.head.specs.Exports.{numbers_of}
use Rattle.head.specs.CaptureExports.{CaptureExport, capture_left, of_captured, export_capture, SameExport}
use Rattle.head.specs.declared.numbers.Numbers.{Numbers}

pub capture-left : (a : Result Recorded Refusal) (room frames : List ℕ) (s : Captured) (n : Numbers) → left a room frames ≡ s
    → n ≡ numbers_of (capture_listed a) → capture_left n.0 n.1 n.2 room frames ≡ of_captured s
unfolding of_captured numbers_of
capture-left a room frames s n e g = rw g (ap of_captured e)

-- and so is what is promised of it
pub same_export : (capture room frames : List ℕ) (l : CaptureExport) → l ≡ export_capture capture room frames
    → (l ≡ export_capture capture room frames) × SameExport capture room frames l
unfolding export_capture SameExport SameRecording
same_export capture room frames l e = (e, λ show x. e ∙ ap of_captured (same_recording capture room frames show x))
