use native.Mathlib.Omega.{arith}
use mathlib.Core.Path.{sym, ◌∙◌}
use lib.ListN.{length-take, length-drop}
use Rattle.card.proofs.PerformLaws.{Here, doing-start, doing_end, doing-next, next, turn, count_small, length-store, length-reply}
use Rattle.card.proofs.run.perform.Goals as goal

pub loop-rest-init : goal.loop-rest-init
loop-rest-init c = let p = c.requires in doing-start _ _ _ _ p.0 p.1 p.2 p.3

-- the command, once it is found
found : (c : goal.After-do_command-arg-in-loop-rest-1)
    → Here c.args.pointers.now c.args.packet.now c.args.store.now c.args.reply.now c.loop-rest.store c.loop-rest.pointers c.loop-rest.reply
    c.loop-rest.filled c.loop-rest.elements c.loop-rest.rest.now c.next_command-c.result.fields c.next_command-c.result.reach
found c =
    record {
      doing = c.loop-rest.invariant;
      some = c.loop-rest-test.true;
      read = c.next_command-c.ensures.0;
      reach = c.next_command-c.ensures.1;
    }

pub do_command-requires : goal.do_command-requires
do_command-requires c = let n = next (found c) in (n.ready, n.store_bytes_lem, n.room)

-- back to the command, from where its pointer is set
abbrev of_pointer : goal.After-slice_known-in-loop-rest-2-1 → goal.After-do_command-arg-in-loop-rest-1
of_pointer c = record { before = c.before.before.before.before.before.before; type_inv = record { packet = c.type_inv.packet } }

pub offset_bounds-pointers-slot : goal.offset_bounds-pointers-slot
offset_bounds-pointers-slot c = let h = found (of_pointer c) in omega (arith, (next h).slot, h.doing.eight)

pub bounds-pointers-slot : goal.bounds-pointers-slot
bounds-pointers-slot c = (next (found (of_pointer c))).slot

-- back to the command, from where its answers and elements are counted
abbrev of_counts : goal.After-struct_known-1 → goal.After-do_command-arg-in-loop-rest-1
of_counts c = record { before = c.before.before.before.before.before.before.before; type_inv = record { packet = c.type_inv.packet } }

pub overflow_add-filled : goal.overflow_add-filled
overflow_add-filled c = omega (arith, (next (found (of_counts c))).answers)

pub summed-elements-requires : goal.summed-elements-requires
summed-elements-requires c = omega (arith, count_small (found (of_counts c)), c.well_formed)

-- back to the command, from where its bytes are passed
abbrev of_bytes : goal.After-summed-elements → goal.After-do_command-arg-in-loop-rest-1
of_bytes c = record { before = c.before.before.before.before.before.before.before.before; type_inv = record { packet = c.type_inv.packet } }

pub slice_bounds-rest-count : goal.slice_bounds-rest-count
slice_bounds-rest-count c = (turn (found (of_bytes c))).whole

pub slice_bounds-rest-start : goal.slice_bounds-rest-start
slice_bounds-rest-start c = slice_bounds-rest-count c

-- back to the command, from the turn's end
abbrev of_end : goal.After-rest-1 → goal.After-do_command-arg-in-loop-rest-1
of_end c = record { before = c.before.before.before.before.before.before.before.before.before; type_inv = record { packet = c.type_inv.packet } }

pub loop-rest-smaller : goal.loop-rest-smaller
loop-rest-smaller c = let t = turn (found (of_end c)) in simp (length-take, length-drop) (omega (arith, t.some, t.whole))

pub loop-rest-preserved : goal.loop-rest-preserved
loop-rest-preserved c = let d = c.do_command.ensures in doing-next (found (of_end c)) _ _ d.store_after d.reply_after _ c.summed-elements.ensures

pub shape_of-store : goal.shape_of-store
shape_of-store c = length-store c.loop-rest.invariant

pub shape_of-pointers : goal.shape_of-pointers
shape_of-pointers c = c.loop-rest.invariant.eight ∙ sym c.requires.2

pub shape_of-reply : goal.shape_of-reply
shape_of-reply c = length-reply c.loop-rest.invariant ∙ sym c.loop-rest.invariant.reply-bytes

pub returns : goal.returns
returns c = doing_end c.loop-rest.invariant (omega arith)
