use mathlib.Core.Path.{◌≡◌}
use Rattle.sserial.specs.Table.{nul_of}
use Rattle.sserial.proofs.table.nul_of.Given as goal

abbrev pub invariant-loop-i : goal.invariant-loop-i
invariant-loop-i l = nul_of l.memory l.i ≡ nul_of l.memory l.at
