use Prim.Native.Nat.{◌+◌}
use mathlib.Core.Path.{◌≡◌}
use lib.ListN.{drop}
use Rattle.cue_text.specs.Inside.{blanks}
use Rattle.cue_text.proofs.word.past_blanks.Given as goal

abbrev pub invariant-loop-i : goal.invariant-loop-i
invariant-loop-i l = l.i + blanks (drop l.i l.rest) ≡ l.at + blanks (drop l.at l.rest)
