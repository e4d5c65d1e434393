use mathlib.Core.Path.{◌≡◌}
use lib.ListN.{drop}
use lib.Pointwise.{pointwise}
use Rattle.text.specs.Find.{same_bytes}
use Rattle.text.proofs.find.same_eights.Given as goal

abbrev pub invariant-loop-i : goal.invariant-loop-i
invariant-loop-i l = pointwise same_bytes (drop l.i l.a) (drop l.i l.b) ≡ pointwise same_bytes l.a l.b
