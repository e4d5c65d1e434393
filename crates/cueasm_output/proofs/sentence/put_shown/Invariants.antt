use Prim.Native.Nat.{◌≤◌}
use mathlib.Core.Path.{◌≡◌}
use mathlib.Core.List.{map}
use lib.ListN.{length, drop}
use Rattle.text.specs.Room.{put_at}
use Rattle.cueasm_output.specs.Sentence.{shown}
use Rattle.cueasm_output.proofs.sentence.put_shown.Given as goal

abbrev pub invariant-loop-b : goal.invariant-loop-b
invariant-loop-b l = (put_at (map shown (drop l.b-index l.word)) l.next l.out ≡ put_at (map shown l.word) l.at l.initial.out) ×
    (length l.out ≡ length l.initial.out) × (l.next ≤ length l.out)
