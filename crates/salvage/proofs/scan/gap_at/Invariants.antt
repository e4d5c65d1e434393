use Rattle.salvage.proofs.SpanLaws.{Gap}
use Rattle.salvage.proofs.scan.gap_at.Given as goal

abbrev pub invariant-loop-n : goal.invariant-loop-n
invariant-loop-n l = Gap l.rest l.n
