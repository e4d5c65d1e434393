use Prim.Native.Nat.{◌+◌}
use mathlib.Core.Path.{◌≡◌}
use lib.ListN.{drop}
use Rattle.cue_text.specs.Inside.{word_bytes}
use Rattle.cue_text.proofs.word.past_word.Given as goal

abbrev pub invariant-loop-i : goal.invariant-loop-i
invariant-loop-i l = l.i + word_bytes (drop l.i l.rest) ≡ l.from + word_bytes (drop l.from l.rest)
