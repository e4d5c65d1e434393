use Prim.Native.Nat.{◌+◌, ◌-◌}
use mathlib.Core.Path.{◌≡◌, sym, ◌∙◌}
use native.Mathlib.Omega.{arith}
use lib.ListN.{length, take, drop}
use borrow.Author.Tests.{eq-eqb, ne_eqb}
use Rattle.cue.specs.Output.{Front, front_of}
use Rattle.tight.specs.Inside.{count_listed}
use Rattle.tight.proofs.PartsLaws.{Parting, parting_first, parting_last, parting_unsound, parting_rejected, parting_next}
use Rattle.tight.proofs.PartsLaws.{taken-within, front-is, frame-within}
use Rattle.tight.proofs.walk.packets_checked.Goals as goal

-- a whole frame stands at the front

-- a turn of the loop

pub loop-rest-init : goal.loop-rest-init
loop-rest-init c = parting_first _ _

pub returns-in_err-n : goal.returns-in_err-n
unfolding count_listed
returns-in_err-n c xs l = rw c.from_residual.ensures (parting_unsound c.loop-rest.invariant c.loop-rest-test.true _ c.frame_bytes.ensures
    c.in_err-n.was
    xs)

pub overflow_add-end : goal.overflow_add-end
overflow_add-end c = let at_frame : Front.frame c.in_ok-n.n ≡ front_of c.loop-rest.rest.now =
    front-is c.loop-rest.invariant c.loop-rest-test.true _ c.frame_bytes.ensures _ c.in_ok-n.was in
    let w = frame-within c.loop-rest.invariant c.loop-rest-test.true _ at_frame in
    omega arith

pub slice_bounds-packet_takes-count : goal.slice_bounds-packet_takes-count
slice_bounds-packet_takes-count c = taken-within c.loop-rest.invariant

pub slice_bounds-packet_takes-start : goal.slice_bounds-packet_takes-start
slice_bounds-packet_takes-start c = slice_bounds-packet_takes-count c

pub slice_bounds-packet_takes-end-in-loop-rest : goal.slice_bounds-packet_takes-end-in-loop-rest
slice_bounds-packet_takes-end-in-loop-rest c = let at_frame : Front.frame c.in_ok-n.n ≡ front_of c.loop-rest.rest.now =
    front-is c.loop-rest.invariant c.loop-rest-test.true _ c.frame_bytes.ensures _ c.in_ok-n.was in
    frame-within c.loop-rest.invariant c.loop-rest-test.true _ at_frame

pub returns-in_err-k : goal.returns-in_err-k
unfolding count_listed
returns-in_err-k c xs l = let at_frame : Front.frame c.in_ok-n.n ≡ front_of c.loop-rest.rest.now =
    front-is c.loop-rest.invariant c.loop-rest-test.true _ c.frame_bytes.ensures _ c.in_ok-n.was in
    rw c.from_residual-in_err-k.ensures (parting_rejected c.loop-rest.invariant c.loop-rest-test.true _
    at_frame
    _
    c.packet_takes.ensures
    c.in_err-k.was
    xs
    l)

pub overflow_add-taken : goal.overflow_add-taken
overflow_add-taken c = let at_frame : Front.frame c.in_ok-n.n ≡ front_of c.loop-rest.rest.now =
    front-is c.loop-rest.invariant c.loop-rest-test.true _ c.frame_bytes.ensures _ c.in_ok-n.was in
    let at_turn : (let a = c.args in
    let end = 4 + c.in_ok-n.n in
    Parting a.list.now a.proposal.now (take (length c.loop-rest.rest.now - end) (drop end c.loop-rest.rest.now))
    (c.loop-rest.taken + c.in_ok-k.k)
    (c.loop-rest.packets + 1)) = parting_next c.loop-rest.invariant c.loop-rest-test.true _
    at_frame
    _
    c.packet_takes.ensures
    _
    c.in_ok-k.was in
    let w = taken-within at_turn in omega arith

pub slice_bounds-rest-count : goal.slice_bounds-rest-count
slice_bounds-rest-count c = let at_frame : Front.frame c.in_ok-n.n ≡ front_of c.loop-rest.rest.now =
    front-is c.loop-rest.invariant c.loop-rest-test.true _ c.frame_bytes.ensures _ c.in_ok-n.was in
    frame-within c.loop-rest.invariant c.loop-rest-test.true _
    at_frame

pub slice_bounds-rest-start : goal.slice_bounds-rest-start
slice_bounds-rest-start c = slice_bounds-rest-count c

pub loop-rest-preserved : goal.loop-rest-preserved
loop-rest-preserved c = let at_frame : Front.frame c.in_ok-n.n ≡ front_of c.loop-rest.rest.now =
    front-is c.loop-rest.invariant c.loop-rest-test.true _ c.frame_bytes.ensures _ c.in_ok-n.was in
    let at_turn : (let a = c.args in
    let end = 4 + c.in_ok-n.n in
    Parting a.list.now a.proposal.now (take (length c.loop-rest.rest.now - end) (drop end c.loop-rest.rest.now))
    (c.loop-rest.taken + c.in_ok-k.k)
    (c.loop-rest.packets + 1)) = parting_next c.loop-rest.invariant c.loop-rest-test.true _
    at_frame
    _
    c.packet_takes.ensures
    _
    c.in_ok-k.was in
    at_turn

pub returns-then-taken-list : goal.returns-then-taken-list
unfolding count_listed
returns-then-taken-list c xs l = sym (parting_last c.loop-rest.invariant c.loop-rest-test.false xs l ∙ rw (ne_eqb _ _ c.if-taken-list.true))

pub returns : goal.returns
unfolding count_listed
returns c xs l = sym (parting_last c.loop-rest.invariant c.loop-rest-test.false xs l ∙ rw (eq-eqb _ _ c.if-taken-list.false))
