use Rattle.parts.proofs.TakeLaws.{front_length, front_fits}
use Rattle.parts.proofs.PartLaws.{end-cut, end_whole}
use Rattle.parts.proofs.take.end_taken.Goals as goal

pub returns-then-k-ne0 : goal.returns-then-k-ne0
returns-then-k-ne0 c = let p = c.requires in end-cut _ _ _ p.0 p.1 c.if-k-ne0.true _ (rw c.number.ensures at c.stopped.ensures)

pub slice_bounds-put_front-end : goal.slice_bounds-put_front-end
slice_bounds-put_front-end c = let p = c.requires in front_length _ _ p.0.sound p.1.held

pub put_front-requires : goal.put_front-requires
put_front-requires c = let p = c.requires in front_fits _ _ _ p.0.sound p.1

pub returns : goal.returns
returns c = let p = c.requires in
    end_whole _ _ _ p.0 p.1 c.if-k-ne0.false _ _ c.stopped-2.ensures c.put_front.ensures
