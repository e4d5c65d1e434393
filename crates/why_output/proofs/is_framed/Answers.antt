use mathlib.Core.Path.{refl}
use Rattle.why_output.specs.Whole.{is_framed}
use Rattle.why_output.proofs.is_framed.Goals as goal

pub returns-in-End : goal.returns-in-End
unfolding is_framed
returns-in-End c = rw (← c.frame_at-frame.ensures, c.in-End.is) refl

pub returns-in-Cut : goal.returns-in-Cut
unfolding is_framed
returns-in-Cut c = rw (← c.frame_at-frame.ensures, c.in-Cut.is) refl

pub returns-in-Unmarked : goal.returns-in-Unmarked
unfolding is_framed
returns-in-Unmarked c = rw (← c.frame_at-frame.ensures, c.in-Unmarked.is) refl

pub returns-in-Whole : goal.returns-in-Whole
unfolding is_framed
returns-in-Whole c = rw (← c.frame_at-frame.ensures, c.in-Whole.is) refl
