use Rattle.std.proofs.Common.{◌≡◌, drop}
use Rattle.cue_text.specs.Text.{place_of}
use Rattle.cue_text.specs.Inside.{names_at}
use Rattle.cue_text.proofs.known.place_of.Given as goal

abbrev pub invariant-loop-x : goal.invariant-loop-x
invariant-loop-x l = place_of l.name (names_at l.text (drop l.x-index l.table)) ≡ place_of l.name (names_at l.text l.table)
