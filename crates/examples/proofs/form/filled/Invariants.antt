use Rattle.std.proofs.Common.{◌≤◌}
use Rattle.examples.proofs.form.filled.Given as goal

abbrev pub invariant-loop-c : goal.invariant-loop-c
invariant-loop-c l = l.next ≤ l.c-index
