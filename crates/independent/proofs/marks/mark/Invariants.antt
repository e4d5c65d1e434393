use Rattle.cue.specs.Records.{cut_up}
use Rattle.independent.proofs.LoopLaws.{Marking}
use Rattle.independent.proofs.marks.mark.Given as goal

abbrev pub invariant-loop-r : goal.invariant-loop-r
invariant-loop-r l = Marking l.list (cut_up l.r-iterator.0.now) l.marks
