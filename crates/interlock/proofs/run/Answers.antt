use mathlib.Core.Path.{refl, sym, ap, ◌∙◌}
use native.Mathlib.Omega.{arith}
use Rattle.std.proofs.Common.{Err}
use Rattle.packet.specs.Verdict.{verdict_listed}
use Rattle.interlock.proofs.GuardedLaws.{none-moved, none-held, run_unsound, run_passes, run_room, run_stopped}
use Rattle.interlock.proofs.run.Goals as goal

pub returns-in_default : goal.returns-in_default
unfolding verdict_listed
returns-in_default c = let told = c.in_default.is in
    let unsound = ap verdict_listed (sym told) ∙ c.soundness-sound.ensures in
    record {
      ran = run_unsound _ _ _ _ _ _ _ unsound _ (ap verdict_listed told) refl;
      summed = none-moved _ _ _ _ (ap verdict_listed told);
      bounded = omega arith;
    }

pub returns-in_default-protected_place : goal.returns-in_default-protected_place
unfolding verdict_listed
returns-in_default-protected_place c = let done = c.run_lent.ensures in
    let good = ap verdict_listed (sym c.in-Ok.is) ∙ c.soundness-sound.ensures in
    record {
      ran = run_passes _ _ _ _ _ _ good _ (rw c.in_default-protected_place.is at c.protected_place.ensures.place) refl _ done.ran;
      summed = done.summed;
      bounded = done.bounded;
    }

pub returns-then-reply-ne-LIMIT : goal.returns-then-reply-ne-LIMIT
unfolding verdict_listed
returns-then-reply-ne-LIMIT c = let good = ap verdict_listed (sym c.in-Ok.is) ∙ c.soundness-sound.ensures in
    record {
      ran = run_room _ _ _ _ _ _ good _ c.in-Some.ensures.place c.if-reply-ne-LIMIT.true _ (ap (λ r. verdict_listed (Err r)) c.at.ensures) refl;
      summed = none-moved _ _ _ _ (ap (λ r. verdict_listed (Err r)) c.at.ensures);
      bounded = omega arith;
    }

pub returns : goal.returns
unfolding verdict_listed
returns c = let good = ap verdict_listed (sym c.in-Ok.is) ∙ c.soundness-sound.ensures in
    let inside = c.in-Some.ensures.inside in
    record {
      ran = run_stopped _ _ _ _ _ _ good _ c.in-Some.ensures.place (λ e. omega arith) c.if-reply-ne-LIMIT.false _
          c.held_back.ensures
          refl;
      summed = none-held _ _ _ _ c.held_back.ensures;
      bounded = omega arith;
    }
