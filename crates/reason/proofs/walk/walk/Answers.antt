use native.Mathlib.Omega.{arith}
use Rattle.reason.proofs.WalkLaws.{walking_begin, Stepped, walking_step, walking_end}
use Rattle.reason.proofs.walk.walk.Goals as goal

-- a turn of the loop

pub loop-place-init : goal.loop-place-init
loop-place-init c = walking_begin _ _ _ _ c.requires

pub loop-place-smaller : goal.loop-place-smaller
loop-place-smaller c = let at_step : Stepped c.args.p
    c.args.packet.now
    c.args.to
    c.pointers_after-pointers.result
    c.loop-place.place
    c.place_after-place.result
    c.loop-place.index = walking_step c.loop-place.invariant c.loop-place-test.true c.header_at-h.result _ _ _ c.header_at-h.ensures
    c.command_bytes-k.ensures c.pointers_after-pointers.ensures c.place_after-place.ensures in
    let less = c.loop-place-test.true in let f = at_step.further in omega arith

pub loop-place-preserved : goal.loop-place-preserved
loop-place-preserved c = let at_step : Stepped c.args.p
    c.args.packet.now
    c.args.to
    c.pointers_after-pointers.result
    c.loop-place.place
    c.place_after-place.result
    c.loop-place.index = walking_step c.loop-place.invariant c.loop-place-test.true c.header_at-h.result _ _ _ c.header_at-h.ensures
    c.command_bytes-k.ensures c.pointers_after-pointers.ensures c.place_after-place.ensures in
    at_step.again

pub returns : goal.returns
returns c = walking_end c.loop-place.invariant c.loop-place-test.false _ c.header_at-last.result
    c.header_at-last.ensures
