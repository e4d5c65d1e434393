use Prim.Native.Nat.{◌+◌}
use mathlib.Core.Path.{◌∙◌}
use native.Mathlib.Omega.{arith}
use Rattle.tight.proofs.ElementsLaws.{Elements, elements-first, elements-last, elements-rejected, elements-next}
use Rattle.tight.proofs.walk.elements_take.Goals as goal

pub loop-init : goal.loop-init
loop-init c = elements-first _ _ _ _ _ _ c.requires.1 c.requires.2 c.requires.3 c.stride_of-step.ensures c.carried_bytes-element.ensures.0

pub returns-in_err-n : goal.returns-in_err-n
returns-in_err-n c =
    c.from_residual.ensures
    ∙ elements-rejected c.loop.invariant c.loop-test.true _ c.element_takes.ensures c.in_err-n.was

pub overflow_add-taken : goal.overflow_add-taken
overflow_add-taken c = let at_turn : (let a = c.args in
    let step = c.stride_of-step.result in
    let element = c.carried_bytes-element.result in
    Elements a.f a.used a.«data».now a.list.now step element (c.loop.taken + c.in_ok-n.n)
    (c.loop.address + step)
    (c.loop.at + element)
    (c.loop.counter + 1)) = elements-next c.loop.invariant c.loop-test.true _ c.element_takes.ensures _ c.in_ok-n.was in
    let w = at_turn.taking.within in omega arith

pub overflow_add-address : goal.overflow_add-address
overflow_add-address c = let at_turn : (let a = c.args in
    let step = c.stride_of-step.result in
    let element = c.carried_bytes-element.result in
    Elements a.f a.used a.«data».now a.list.now step element (c.loop.taken + c.in_ok-n.n)
    (c.loop.address + step)
    (c.loop.at + element)
    (c.loop.counter + 1)) = elements-next c.loop.invariant c.loop-test.true _ c.element_takes.ensures _ c.in_ok-n.was in
    let l = at_turn.low in omega arith

pub loop-preserved : goal.loop-preserved
loop-preserved c = elements-next c.loop.invariant c.loop-test.true _ c.element_takes.ensures _ c.in_ok-n.was

pub returns : goal.returns
returns c = elements-last c.loop.invariant (omega arith)
