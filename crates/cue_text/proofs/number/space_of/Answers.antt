use native.Mathlib.Omega.{arith}
use mathlib.Core.Path.{refl}
use Rattle.text.specs.Number.{ascii}
use Rattle.cue_text.specs.Numbers.{space_of, up_to}
use Rattle.cue_text.proofs.NumberLaws.{narrowed, narrow}
use Rattle.cue_text.proofs.number.space_of.Goals as goal

pub returns-then-same : goal.returns-then-same
unfolding space_of ascii
returns-then-same c = rw (← c.same.ensures, c.if-same.true) refl

pub returns-then-same-2 : goal.returns-then-same-2
unfolding space_of ascii
returns-then-same-2 c = rw (← c.same.ensures, c.if-same.false, ← c.same-2.ensures, c.if-same-2.true) refl

pub returns-then-same-3 : goal.returns-then-same-3
unfolding space_of ascii
returns-then-same-3 c = rw (← c.same.ensures, c.if-same.false, ← c.same-2.ensures, c.if-same-2.false)
    (rw (← c.same-3.ensures, c.if-same-3.true) refl)

pub returns-then-same-4 : goal.returns-then-same-4
unfolding space_of ascii
returns-then-same-4 c = rw (← c.same.ensures, c.if-same.false, ← c.same-2.ensures, c.if-same-2.false)
    (rw (← c.same-3.ensures, c.if-same-3.false, ← c.same-4.ensures, c.if-same-4.true) refl)

pub returns-in_err-value_of : goal.returns-in_err-value_of
unfolding space_of ascii up_to
returns-in_err-value_of c = rw (← c.same.ensures, c.if-same.false, ← c.same-2.ensures, c.if-same-2.false)
    (rw (← c.same-3.ensures, c.if-same-3.false, ← c.same-4.ensures, c.if-same-4.false)
    (rw (← narrowed 255 _ (omega arith) c.value_of.ensures, c.in_err-value_of.was) c.from_residual.ensures))

pub returns : goal.returns
unfolding space_of ascii up_to
returns c = rw (← c.same.ensures, c.if-same.false, ← c.same-2.ensures, c.if-same-2.false)
    (rw (← c.same-3.ensures, c.if-same-3.false, ← c.same-4.ensures, c.if-same-4.false)
    (rw (← narrowed 255 _ (omega arith) c.value_of.ensures, c.in_ok-value_of.was) (narrow 255 _ c.try_from.result c.ok.ensures.value c.try_from.ensures)))
