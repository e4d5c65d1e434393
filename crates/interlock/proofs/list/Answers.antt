use Rattle.std.proofs.lemmas.Result.{err_from_is_err_and}
use Rattle.packet.specs.Verdict.{verdict_listed}
use Rattle.cue.specs.Compile.{compile_listed}
use Rattle.interlock.proofs.ListLaws.{list-unsound, list-accepted, list-refused, list_held_lem}
use Rattle.interlock.proofs.list.Goals as goal

pub returns-in_err-soundness : goal.returns-in_err-soundness
unfolding verdict_listed
returns-in_err-soundness c =
    let p = err_from_is_err_and c.from_residual.result c.from_residual.ensures.1 in
    rw (p.1, p.2) (list-unsound _ _ _ _ c.in_err-soundness.ensures)

pub returns-in_err-plan : goal.returns-in_err-plan
unfolding verdict_listed compile_listed
returns-in_err-plan c =
    let p = err_from_is_err_and c.from_residual-in_err-plan.result c.from_residual-in_err-plan.ensures.1 in
    rw (p.1, p.2) (list-refused _ _ _ c.in_ok-soundness.ensures _ _ c.in_err-plan.ensures)

pub records_held-requires : goal.records_held-requires
unfolding compile_listed
records_held-requires c = list-accepted _ _ c.in_ok-plan.ensures

pub returns : goal.returns
unfolding verdict_listed compile_listed
returns c =
    let (xs, l) = list-accepted _ _ c.in_ok-plan.ensures in
    list_held_lem _ _ _ c.in_ok-soundness.ensures _ c.records_held.ensures xs l
