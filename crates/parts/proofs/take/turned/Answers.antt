use Rattle.parts.specs.State.{unopened}
use Rattle.parts.proofs.TakeLaws.{front_length, front_fits, turns-closed, turns_open}
use Rattle.parts.proofs.take.turned.Goals as goal

pub slice_bounds-put_front-end : goal.slice_bounds-put_front-end
slice_bounds-put_front-end c = front_length _ _ c.requires.0 c.requires.1.held

pub put_front-requires : goal.put_front-requires
put_front-requires c = front_fits _ _ _ c.requires.0 c.requires.1

pub returns-then-q-eq2 : goal.returns-then-q-eq2
unfolding unopened
returns-then-q-eq2 c = let p = c.requires in
    turns-closed _ _ _ p.0 p.2 _ c.record_at-r.ensures _ c.turned-q.ensures _ c.if-q-eq2.true p.1 _ _ _
    c.empty.ensures c.turned.ensures c.put_front.ensures

pub returns : goal.returns
returns c = let p = c.requires in
    turns_open _ _ _ p.0 p.2 _ c.record_at-r.ensures _ c.turned-q.ensures _ c.if-q-eq2.false
