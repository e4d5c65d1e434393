use mathlib.Core.Path.{refl}
use Rattle.card.proofs.AnswerLaws.{ran-listed, ran_work}
use Rattle.card.proofs.run.run.Goals as goal

pub returns : goal.returns
returns c = let listed = c.listed-lent.ensures in
    record {
      ran = (ran_work _ _ _ _ _ _ _
          (ran-listed _ _ _ _ c.run_lent-done.result _ _ _ _ _ listed c.run_lent-done.ensures.ran refl refl c.from_lent-pointers.ensures)).0;
      summed = (ran_work _ _ _ _ _ _ _
          (ran-listed _ _ _ _ c.run_lent-done.result _ _ _ _ _ listed c.run_lent-done.ensures.ran refl refl c.from_lent-pointers.ensures)).1.0;
      bounded = (ran_work _ _ _ _ _ _ _
          (ran-listed _ _ _ _ c.run_lent-done.result _ _ _ _ _ listed c.run_lent-done.ensures.ran refl refl c.from_lent-pointers.ensures)).1.1;
    }
