-- What the program says of a show that our own card recorded.
use Prim.Native.Nat.{ℕ, ◌+◌, ◌*◌, ◌/◌, ◌%◌, ◌≤◌}
use mathlib.Core.Path.{◌≡◌, refl}
use mathlib.Core.List.{List, [], ◌∷◌, ◌++◌}
use mathlib.Core.Bool.{true, false}
use native.Mathlib.Omega.{arith}
use lib.ListN.{length, take, replicate}
use borrow.Author.Tests.{le-ltb, ne_eqb}
use Rattle.lbp16.specs.Space.{store_bytes, area_row, info_row, row}
use Rattle.lbp16.specs.Pointer.{fresh, fresh_spaces, above_size, some_over, over, of_space}
use Rattle.lbp16.specs.declared.pointer.Pointers.{Pointers}
use Rattle.packet.specs.Bytes.{number, bytes_of}
use Rattle.card.specs.Run.{bad_state}
use Rattle.cue.specs.Output.{frame_mark, framed, output_of}
use Rattle.cue.specs.Play.{play}
use Rattle.recording.specs.Recording as verdicts
use Rattle.recording.specs.Show.{recording_of, shown}
use Rattle.recording.proofs.ShowLaws.{zero_rooms}
use Rattle.recording.proofs.JudgeLaws.{recorded-yes}
use Rattle.showcheck_output.specs.Findings.{yes_text, verdict_text, left_text, judged_text, recording_text, said, most_bytes}
use Rattle.showcheck_output.specs.Input.{is_capture, is_pcapng, input_text}
use Rattle.showcheck_output.specs.Given.{given_text, whole_text}
use Rattle.std.specs.Prelude.{Ok}
use Rattle.showcheck_output.specs.declared.given.Given.{Given}

-- a fresh card is never refused with 1
pub fresh-state : bad_state (replicate store_bytes 0) fresh ≡ false
unfolding bad_state above_size some_over over fresh fresh_spaces of_space area_row info_row row
fresh-state = refl

-- The recording that a fresh card makes of accepted packets is answered with yes and their number.
pub recorded-said : (packets : List (List ℕ)) → (play packets zero_rooms (replicate store_bytes 0) fresh).accepted ≡ true
    → length (recording_of packets (replicate store_bytes 0) fresh) ≤ most_bytes
    → said (recording_of packets (replicate store_bytes 0) fresh) ≡ yes_text (length packets)
unfolding said recording_text left_text judged_text verdicts.judged verdicts.said verdict_text
recorded-said packets ok few =
    rw (le-ltb most_bytes _ few, (recorded-yes packets (replicate store_bytes 0) fresh fresh-state ok).0) refl

-- a frame's mark is the beginning of no capture
frame-front : (q more : List ℕ)
    → number (take 4 (framed q ++ more)) ≡ frame_mark + 65536 * (length q % 256 + 256 * (length q / 256 % 256))
unfolding framed bytes_of number
frame-front q more = omega arith

no_capture : (m k : ℕ) → m ≡ frame_mark + 65536 * k → (is_pcapng m ≡ false) × (is_capture m ≡ false)
unfolding is_pcapng is_capture
no_capture m k e = (
  ne_eqb m 0x0A0D0D0A (λ h. omega arith),
  rw (
    ne_eqb m 0xA1B2C3D4 (λ h. omega arith),
    ne_eqb m 0xD4C3B2A1 (λ h. omega arith),
    ne_eqb m 0xA1B23C4D (λ h. omega arith),
    ne_eqb m 0x4D3CB2A1 (λ h. omega arith),
  )
      refl,
)

recording_front : (packets : List (List ℕ)) (store : List ℕ) (p : Pointers)
    → (is_pcapng (number (take 4 (recording_of packets store p))) ≡ false) × (is_capture (number (take 4 (recording_of packets store p))) ≡ false)
unfolding recording_of shown output_of number is_pcapng is_capture
recording_front [] store p = (refl, refl)
recording_front (q ∷ qs) store p = no_capture _ _ (frame-front q _)

-- So says the program, started with no file.
pub recorded-written : (packets : List (List ℕ)) (file pointers : List ℕ)
    → (play packets zero_rooms (replicate store_bytes 0) fresh).accepted ≡ true
    → length (recording_of packets (replicate store_bytes 0) fresh) ≤ most_bytes
    → whole_text (Ok Given.Nothing) file pointers (recording_of packets (replicate store_bytes 0) fresh) ≡ yes_text (length packets)
unfolding whole_text given_text input_text said
recorded-written packets file pointers ok few =
    let f = recording_front packets (replicate store_bytes 0) fresh in
    rw (f.0, f.1) (recorded-said packets ok few)
