use Rattle.head.specs.CaptureExports.{export_capture}
use Rattle.head.proofs.CaptureExportLaws.{capture-left, same_export}
use Rattle.head.proofs.ListingLaws.{capture_numbers}
use Rattle.head.proofs.capture_exports.head_capture.Goals as goal

-- a lemma's facts, as the clauses have names
named2 : {A B R : Type 0} → (A → B → R) → A × B → R
named2 f h = f h.0 h.1

pub returns : goal.returns
unfolding export_capture
returns c = named2 (λ h0 h1. record { captured = h0; same_recording = h1 })
    (same_export _ _ _ _ (capture-left _ _ _ _ _ c.read.ensures.captured (capture_numbers _ c.numbers_of-given.ensures)))
