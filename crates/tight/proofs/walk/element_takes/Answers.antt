use mathlib.Core.Path.{◌≡◌, sym, ◌∙◌}
use mathlib.Core.Bool.{true, false, cond}
use Rattle.tight.specs.Inside.{element_step, step_takes}
use Rattle.std.proofs.Common.{Some, None}
use Rattle.tight.proofs.StepLaws.{Compared, element-unlocks, element-short, element-other, element-taken}
use Rattle.tight.proofs.walk.element_takes.Goals as goal

-- what is found before the element and the record are compared

-- the answer, once the bytes are compared

pub returns-then-unlocks : goal.returns-then-unlocks
returns-then-unlocks c = element-unlocks _ _ (sym c.unlocks.ensures ∙ c.if-unlocks.true)

pub returns-then-list-n : goal.returns-then-list-n
returns-then-list-n c = let at_compared : Compared c.args.write
    c.args.space
    c.args.address
    c.args.bytes.now
    c.args.list.now
    c.record_at-r.result
    c.record_bytes-n.result = record {
      present = c.requires.0;
      plain = sym c.unlocks.ensures ∙ c.if-unlocks.false;
      read = c.record_at-r.ensures;
      record_bytes_lem = c.record_bytes-n.ensures.0;
    } in
    element-short at_compared c.if-list-n.true

pub returns-then-r-write : goal.returns-then-r-write
returns-then-r-write c = let at_compared : Compared c.args.write
    c.args.space
    c.args.address
    c.args.bytes.now
    c.args.list.now
    c.record_at-r.result
    c.record_bytes-n.result = record {
      present = c.requires.0;
      plain = sym c.unlocks.ensures ∙ c.if-unlocks.false;
      read = c.record_at-r.ensures;
      record_bytes_lem = c.record_bytes-n.ensures.0;
    } in
    element-other at_compared c.if-list-n.false c.if-r-write.true

pub returns-then-same : goal.returns-then-same
returns-then-same c = let at_compared : Compared c.args.write
    c.args.space
    c.args.address
    c.args.bytes.now
    c.args.list.now
    c.record_at-r.result
    c.record_bytes-n.result = record {
      present = c.requires.0;
      plain = sym c.unlocks.ensures ∙ c.if-unlocks.false;
      read = c.record_at-r.ensures;
      record_bytes_lem = c.record_bytes-n.ensures.0;
    } in
    (let answer' : (let a = c.args in
    cond true (Some c.record_bytes-n.result) None
    ≡ step_takes (element_step a.write a.space a.address a.bytes.now) a.list.now) =
    element-taken at_compared c.if-list-n.false c.if-r-write.false _ c.carried_bytes-m.ensures.0 true
    c.same.ensures
    c.if-same.true in answer')

pub returns-else-same : goal.returns-else-same
returns-else-same c = let at_compared : Compared c.args.write
    c.args.space
    c.args.address
    c.args.bytes.now
    c.args.list.now
    c.record_at-r.result
    c.record_bytes-n.result = record {
      present = c.requires.0;
      plain = sym c.unlocks.ensures ∙ c.if-unlocks.false;
      read = c.record_at-r.ensures;
      record_bytes_lem = c.record_bytes-n.ensures.0;
    } in
    (let answer' : (let a = c.args in
    cond false (Some c.record_bytes-n.result) None
    ≡ step_takes (element_step a.write a.space a.address a.bytes.now) a.list.now) =
    element-taken at_compared c.if-list-n.false c.if-r-write.false _ c.carried_bytes-m.ensures.0 false
    c.same.ensures
    c.if-same.false in answer')
