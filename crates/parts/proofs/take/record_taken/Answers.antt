use Rattle.parts.proofs.TakeLaws.{record_leaves}
use Rattle.parts.proofs.take.record_taken.Goals as goal

pub returns : goal.returns
returns c = let p = c.requires in
    record_leaves _ _ _ _ p.0 p.1 p.2 _ _ _ _ c.turned-t.ensures c.put.ensures
