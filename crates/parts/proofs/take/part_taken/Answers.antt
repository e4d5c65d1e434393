use Rattle.parts.proofs.PartLaws.{part-stops, part-ends}
use Rattle.parts.proofs.take.part_taken.Goals as goal

pub returns-then-last-kept : goal.returns-then-last-kept
returns-then-last-kept c = part-ends _ _ _ _ _ _ _ _ c.bytes_taken-s.ensures c.if-last-kept.true _ _ _ c.end_taken-e.ensures

pub returns : goal.returns
returns c = part-stops _ _ _ _ _ _ _ _ c.bytes_taken-s.ensures c.if-last-kept.false
