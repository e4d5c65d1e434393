use mathlib.Core.Path.{refl, sym, ◌∙◌}
use Rattle.parts.proofs.SingleLaws.{no_true, lengthened_is}
use native.Mathlib.Omega.{arith}
use Rattle.parts.proofs.single.lengthened.Goals as goal

pub returns-then-unfit : goal.returns-then-unfit
returns-then-unfit c = record { taken = no_true; still = λ e. refl }

pub returns-then-not-waits : goal.returns-then-not-waits
returns-then-not-waits c = record { taken = no_true; still = λ e. refl }

pub overflow_cast-place : goal.overflow_cast-place
overflow_cast-place c = omega (arith, c.slice_known-2-1.given 1)

pub overflow_add-place : goal.overflow_add-place
overflow_add-place c = omega (arith, c.slice_known-2-1.given 1)

pub bounds-s-place : goal.bounds-s-place
bounds-s-place c = omega (arith, c.requires, (c.waits.ensures c.if-not-waits.false).few)

pub overflow_add-s : goal.overflow_add-s
overflow_add-s c = omega (arith, (c.waits.ensures c.if-not-waits.false).few)

pub returns : goal.returns
returns c = record {
  taken = λ t. lengthened_is c.args.s.now _ c.requires (λ i. omega (arith, c.slice_known-2-1.given i))
      (sym c.unfit.ensures ∙ c.if-unfit.false) (c.waits.ensures c.if-not-waits.false);
  still = λ e. no_true (sym e);
}
