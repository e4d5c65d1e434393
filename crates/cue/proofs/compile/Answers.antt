use Rattle.std.proofs.lemmas.Result.{err_from_is_err_and}
use Rattle.cue.specs.Compile.{compile_listed, left}
use Rattle.cue.proofs.Demand3.{demand3-of}
use Rattle.cue.proofs.AnswerLaws.{turned-away, too_small, may_write, all-written}
use Rattle.cue.proofs.compile.Goals as goal

pub returns-in_err-packed : goal.returns-in_err-packed
unfolding left
returns-in_err-packed c =
    let p = err_from_is_err_and c.from_residual.result c.from_residual.ensures.1 in
    let r = turned-away _ _ _ c.in_err-packed.ensures in
    rw (p.1, p.2) (record { compiled = r; demand3 = demand3-of _ _ _ _ r })

pub returns-then-out-packed : goal.returns-then-out-packed
unfolding compile_listed left
returns-then-out-packed c =
    let r = too_small _ _ _ c.in_ok-packed.ensures c.if-out-packed.true in
    rw c.at.ensures (record { compiled = r; demand3 = demand3-of _ _ _ _ r })

pub emit-requires : goal.emit-requires
emit-requires c = may_write _ _ _ c.in_ok-packed.ensures c.if-out-packed.false

pub returns : goal.returns
unfolding compile_listed left
returns c =
    let r = all-written _ _ _ c.in_ok-packed.ensures _ c.if-out-packed.false c.emit.ensures in
    record { compiled = r; demand3 = demand3-of _ _ _ _ r }
