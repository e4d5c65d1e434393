use mathlib.Core.Path.{◌∙◌}
use native.Mathlib.Omega.{arith}
use lib.ListN.{length-take, length-drop}
use Rattle.tight.proofs.PacketLaws.{Here, going-first, going-last, passed_here, going-rejected, going_next}
use Rattle.tight.proofs.PacketLaws.{taken-within, more_within, command-some, command-within}
use Rattle.tight.proofs.walk.commands_take.Goals as goal

-- the next command

pub loop-rest-init : goal.loop-rest-init
loop-rest-init c = going-first _ _ _ c.requires

pub slice_bounds-command_takes-count : goal.slice_bounds-command_takes-count
slice_bounds-command_takes-count c = taken-within c.loop-rest.invariant

pub slice_bounds-command_takes-start : goal.slice_bounds-command_takes-start
slice_bounds-command_takes-start c = slice_bounds-command_takes-count c

pub command_takes-requires : goal.command_takes-requires
command_takes-requires c = let at_found : (let a = c.args in
    Here a.p a.packet.now a.list.now c.loop-rest.pointers c.loop-rest.rest.now c.loop-rest.taken c.fields_at-f.result) =
    record { going = c.loop-rest.invariant; more = c.loop-rest-test.true; read = c.fields_at-f.ensures } in
    passed_here at_found

pub returns-in_err-n : goal.returns-in_err-n
returns-in_err-n c = let at_found : (let a = c.args in
    Here a.p a.packet.now a.list.now c.loop-rest.pointers c.loop-rest.rest.now c.loop-rest.taken c.fields_at-f.result) =
    record { going = c.loop-rest.invariant; more = c.loop-rest-test.true; read = c.fields_at-f.ensures } in
    c.from_residual.ensures ∙ going-rejected at_found _ c.command_takes.ensures c.in_err-n.was

pub overflow_add-taken : goal.overflow_add-taken
overflow_add-taken c = let at_found : (let a = c.args in
    Here a.p a.packet.now a.list.now c.loop-rest.pointers c.loop-rest.rest.now c.loop-rest.taken c.fields_at-f.result) =
    record { going = c.loop-rest.invariant; more = c.loop-rest-test.true; read = c.fields_at-f.ensures } in
    let l = more_within at_found _ c.command_takes.ensures _ c.in_ok-n.was in
    omega (arith, c.well_formed.0)

pub slice_bounds-rest-count : goal.slice_bounds-rest-count
slice_bounds-rest-count c = command-within ((let found' : (let a = c.args in
    Here a.p a.packet.now a.list.now c.loop-rest.pointers c.loop-rest.rest.now c.loop-rest.taken c.fields_at-f.result) =
    record { going = c.loop-rest.invariant; more = c.loop-rest-test.true; read = c.fields_at-f.ensures } in found')) _ c.command_bytes-k.ensures

pub slice_bounds-rest-start : goal.slice_bounds-rest-start
slice_bounds-rest-start c = slice_bounds-rest-count c

pub loop-rest-smaller : goal.loop-rest-smaller
loop-rest-smaller c = let s = command-some ((let found' : (let a = c.args in
    Here a.p a.packet.now a.list.now c.loop-rest.pointers c.loop-rest.rest.now c.loop-rest.taken c.fields_at-f.result) =
    record { going = c.loop-rest.invariant; more = c.loop-rest-test.true; read = c.fields_at-f.ensures } in found')) _ c.command_bytes-k.ensures in
    let w = (command-within ((let found' : (let a = c.args in
    Here a.p a.packet.now a.list.now c.loop-rest.pointers c.loop-rest.rest.now c.loop-rest.taken c.fields_at-f.result) =
    record { going = c.loop-rest.invariant; more = c.loop-rest-test.true; read = c.fields_at-f.ensures } in found')) _ c.command_bytes-k.ensures) in
    simp (length-take, length-drop) (omega arith)

pub loop-rest-preserved : goal.loop-rest-preserved
loop-rest-preserved c = going_next ((let found' : (let a = c.args in
    Here a.p a.packet.now a.list.now c.loop-rest.pointers c.loop-rest.rest.now c.loop-rest.taken c.fields_at-f.result) =
    record { going = c.loop-rest.invariant; more = c.loop-rest-test.true; read = c.fields_at-f.ensures } in found')) _ c.command_bytes-k.ensures _
    c.command_takes.ensures _ c.in_ok-n.was _
    c.address_used-used.ensures _ c.pointers_after-pointers.ensures

pub returns : goal.returns
returns c = going-last c.loop-rest.invariant (omega arith)
