use mathlib.Core.Path.{refl}
use native.Mathlib.Omega.{arith}
use Rattle.std.proofs.lemmas.Result.{err_from_is_err_and}
use Rattle.packet.specs.Verdict.{verdict_listed}
use Rattle.interlock.proofs.GuardedLaws.{check-unsound, check-passes, check-stopped}
use Rattle.interlock.proofs.check.Goals as goal

pub returns-in_err-soundness : goal.returns-in_err-soundness
unfolding verdict_listed
returns-in_err-soundness c =
    let p = err_from_is_err_and c.from_residual.result c.from_residual.ensures.1 in
    rw (p.1, p.2) (check-unsound _ _ _ _ _ _ c.in_err-soundness.ensures)

pub returns-in-None : goal.returns-in-None
unfolding verdict_listed
returns-in-None c =
    check-passes _ _ _ _ _ c.in_ok-soundness.ensures _ c.in-None.ensures.place refl _ c.check_lent.ensures

pub returns-in-Some : goal.returns-in-Some
unfolding verdict_listed
returns-in-Some c =
    let inside = c.in-Some.ensures.inside in
    check-stopped _ _ _ _ _ c.in_ok-soundness.ensures _ c.in-Some.ensures.place (λ e. omega arith) _ c.held_back.ensures
