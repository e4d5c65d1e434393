use Rattle.cue.specs.Records.{cut_up}
use Rattle.planner.proofs.OneCellLaws.{Counting}
use Rattle.planner.proofs.one_cell.reads_of_one_cell.Given as goal

abbrev pub invariant-loop-r : goal.invariant-loop-r
invariant-loop-r l = Counting l.list (cut_up l.r-iterator.0.now) l.count
