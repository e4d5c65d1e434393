use Prim.Native.Nat.{◌+◌, ◌-◌}
use mathlib.Core.Path.{◌≡◌}
use lib.ListN.{length, take, drop}
use lib.Seq.{sets}
use Rattle.cue.proofs.emit.put_element.Given as goal

abbrev pub invariant-loop-i : goal.invariant-loop-i
invariant-loop-i l = (length l.out ≡ length l.initial.out)
    × (sets l.initial.out l.at (take l.n (drop 6 l.rest)) ≡ sets l.out (l.at + l.i) (take (l.n - l.i) (drop (6 + l.i) l.rest)))
