use mathlib.Core.Path.{sym, ◌∙◌}
use Rattle.std.proofs.lemmas.Result.{err_from_is_err_and}
use Rattle.packet.specs.Verdict.{verdict_listed}
use Rattle.interlock.proofs.GuardedLaws.{stays, replaced}
use Rattle.interlock.proofs.held_back.Goals as goal

pub returns-in_err-check_lent : goal.returns-in_err-check_lent
unfolding verdict_listed
returns-in_err-check_lent c =
    let p = err_from_is_err_and c.from_residual.result c.from_residual.ensures.1 in
    let e = c.in_err-check_lent.ensures in
    rw (p.1, p.2) (e ∙ stays _ _ _ _ (sym e))

pub returns : goal.returns
unfolding verdict_listed
returns c = rw c.at.ensures (replaced _ _ _ c.in_ok-check_lent.ensures)
