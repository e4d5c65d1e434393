use Rattle.cue.specs.Records.{cut_up}
use Rattle.interlock.proofs.ListLaws.{Left}
use Rattle.interlock.proofs.walk.records_held.Given as goal

abbrev pub invariant-loop-r : goal.invariant-loop-r
invariant-loop-r l = Left l.guard l.list (cut_up l.r-iterator.0.now) l.index
