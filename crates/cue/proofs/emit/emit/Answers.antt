use borrow.Author.Rules.{rules}
use lib.ListN.{length}
use Rattle.cue.proofs.LoopLaws.{roomy}
use Rattle.cue.proofs.EmitLaws.{Putting, filled-first, filled-last, put-placed, put-element, put_whole, put-shorter, filled-again}
use Prim.Native.Nat.{◌≤◌}
use Rattle.cue.proofs.EmitLaws.{filled-length, put_front}
use Rattle.cue.proofs.emit.emit.Goals as goal

-- a turn, once the packer is told of the record

pub loop-rest-init : goal.loop-rest-init
loop-rest-init c = filled-first _ _ _ c.empty-packer.ensures

pub whole_record-r-requires : goal.whole_record-r-requires
whole_record-r-requires c = put_front _ _ _ _ _ c.requires c.loop-rest.invariant c.loop-rest-test.true

pub turned-packer-requires : goal.turned-packer-requires
turned-packer-requires c = (roomy c.loop-rest.invariant.held, c.row_of.ensures)

pub put_record-requires : goal.put_record-requires
put_record-requires c = let at_putting : Putting c.args.list.now c.loop-rest.rest.now c.args.out.now c.loop-rest.out c.loop-rest.packer
    c.turned-packer.result
    c.whole_record-r.result = record {
      ready = c.requires;
      filled = c.loop-rest.invariant;
      more = c.loop-rest-test.true;
      read = c.whole_record-r.ensures;
      told = c.turned-packer.ensures;
    } in
    let turn = at_putting in
    (put-placed turn, c.carried.ensures.1, put-element turn _ c.carried.ensures.0)

pub slice_bounds-rest-count : goal.slice_bounds-rest-count
slice_bounds-rest-count c = let at_putting : Putting c.args.list.now c.loop-rest.rest.now c.args.out.now c.loop-rest.out c.loop-rest.packer
    c.turned-packer.result
    c.whole_record-r.result = record {
      ready = c.requires;
      filled = c.loop-rest.invariant;
      more = c.loop-rest-test.true;
      read = c.whole_record-r.ensures;
      told = c.turned-packer.ensures;
    } in
    let at_whole : c.record_bytes-n.result ≤ length c.loop-rest.rest.now = put_whole at_putting _ c.record_bytes-n.ensures.0 in
    at_whole

pub slice_bounds-rest-start : goal.slice_bounds-rest-start
slice_bounds-rest-start c = let at_putting : Putting c.args.list.now c.loop-rest.rest.now c.args.out.now c.loop-rest.out c.loop-rest.packer
    c.turned-packer.result
    c.whole_record-r.result = record {
      ready = c.requires;
      filled = c.loop-rest.invariant;
      more = c.loop-rest-test.true;
      read = c.whole_record-r.ensures;
      told = c.turned-packer.ensures;
    } in
    let at_whole : c.record_bytes-n.result ≤ length c.loop-rest.rest.now = put_whole at_putting _ c.record_bytes-n.ensures.0 in
    let h = at_whole in search rules

pub slice_bounds-rest-end : goal.slice_bounds-rest-end
slice_bounds-rest-end c = let at_putting : Putting c.args.list.now c.loop-rest.rest.now c.args.out.now c.loop-rest.out c.loop-rest.packer
    c.turned-packer.result
    c.whole_record-r.result = record {
      ready = c.requires;
      filled = c.loop-rest.invariant;
      more = c.loop-rest-test.true;
      read = c.whole_record-r.ensures;
      told = c.turned-packer.ensures;
    } in
    let at_whole : c.record_bytes-n.result ≤ length c.loop-rest.rest.now = put_whole at_putting _ c.record_bytes-n.ensures.0 in
    let h = at_whole in search rules

pub loop-rest-smaller : goal.loop-rest-smaller
loop-rest-smaller c = let at_putting : Putting c.args.list.now c.loop-rest.rest.now c.args.out.now c.loop-rest.out c.loop-rest.packer
    c.turned-packer.result
    c.whole_record-r.result = record {
      ready = c.requires;
      filled = c.loop-rest.invariant;
      more = c.loop-rest-test.true;
      read = c.whole_record-r.ensures;
      told = c.turned-packer.ensures;
    } in
    put-shorter at_putting _ c.record_bytes-n.ensures.0

pub loop-rest-preserved : goal.loop-rest-preserved
loop-rest-preserved c = let at_putting : Putting c.args.list.now c.loop-rest.rest.now c.args.out.now c.loop-rest.out c.loop-rest.packer
    c.turned-packer.result
    c.whole_record-r.result = record {
      ready = c.requires;
      filled = c.loop-rest.invariant;
      more = c.loop-rest-test.true;
      read = c.whole_record-r.ensures;
      told = c.turned-packer.ensures;
    } in
    filled-again at_putting _ c.record_bytes-n.ensures.0 _ _
    c.carried.ensures.0
    c.put_record.ensures

pub shape_of-out : goal.shape_of-out
shape_of-out c = filled-length _ _ _ _ _ c.requires c.loop-rest.invariant c.loop-rest-test.false

pub returns : goal.returns
returns c = filled-last _ _ _ _ _ c.loop-rest.invariant c.loop-rest-test.false
