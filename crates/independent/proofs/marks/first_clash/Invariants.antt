use Rattle.cue.specs.Records.{cut_up}
use Rattle.independent.proofs.LoopLaws.{Testing}
use Rattle.independent.proofs.marks.first_clash.Given as goal

abbrev pub invariant-loop-index : goal.invariant-loop-index
invariant-loop-index l =
    goal.iterator-loop-index.can_next l.index-iterator × goal.iterator-loop-index.is_finite l.index-iterator
    × Testing l.list (cut_up l.index-iterator.iter.0.now) l.index-iterator.count l.marks
