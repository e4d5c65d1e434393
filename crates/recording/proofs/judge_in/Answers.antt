use mathlib.Core.Path.{refl, sym, ◌∙◌}
use Rattle.recording.specs.Recording.{left, judged_in}
use Rattle.recording.proofs.judge_in.Goals as goal

pub returns-then-bad_state : goal.returns-then-bad_state
unfolding left judged_in
returns-then-bad_state c = rw (c.at.ensures, sym c.bad_state.ensures ∙ c.if-bad_state.true) refl

pub returns : goal.returns
unfolding judged_in
returns c = rw (sym c.bad_state.ensures ∙ c.if-bad_state.false) c.judge_parts.ensures
