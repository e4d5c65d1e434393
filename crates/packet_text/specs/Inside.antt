-- The inside of private functions' contracts.
use Rattle.std.specs.Prelude.{ℕ, ◌+◌, ◌<◌, ◌≡◌, List, false, length}
use Rattle.std.proofs.lemmas.List.Edits.{sets}
use Rattle.lbp16.specs.Space.{space_of, is_absent}
use Rattle.lbp16.specs.declared.word.Fields.{Fields}
use Rattle.lbp16.specs.declared.pointer.Pointers.{Pointers}
use Rattle.card.specs.Run.{checked_packet}
use Rattle.reason.specs.Reason.{reason_of}
use Rattle.reason.specs.declared.Reason.{Reason}
use Rattle.text.specs.Room.{Filled, filled}

-- A text put into a room from a place on. What does not fit is left out, and the place behind it told all the same.
unfoldable pub laid_at : List ℕ → ℕ → List ℕ → Filled
laid_at text at room = filled (at + length text) (sets room at text)

-- the fields of an accepted command
abbrev pub Plain : ℕ → Fields → Type 0
Plain place f = (place < 10000) × (f.count < 128) × (is_absent (space_of f.space) ≡ false)

-- what the check of a packet alone says
abbrev pub OfPacket : List ℕ → Reason → Type 0
OfPacket packet r = (p : Pointers) × (r ≡ reason_of p packet (checked_packet p packet))
