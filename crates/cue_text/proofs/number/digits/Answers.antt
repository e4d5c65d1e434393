use Rattle.std.proofs.Common.{arith, rules, ◌∙◌}
use Rattle.cue_text.proofs.NumberLaws.{read_first, read-bad, read-over, read_next, read-last, read-none}
use Rattle.cue_text.proofs.number.digits.Goals as goal

pub loop-c-init : goal.loop-c-init
loop-c-init c = read_first _ _

pub returns-in_err-d : goal.returns-in_err-d
returns-in_err-d c = c.from_residual.ensures ∙ read-bad _ _ _ _ c.loop-c.invariant (search rules) c.in_err-d.ensures

pub returns-in_err-checked_mul : goal.returns-in_err-checked_mul
returns-in_err-checked_mul c = c.from_residual-in_err-checked_mul.ensures
    ∙ read-over _ _ _ _ c.loop-c.invariant c.requires.0 (search rules) (omega (arith, c.in_err-checked_mul.ensures))

pub returns-in_err-n : goal.returns-in_err-n
returns-in_err-n c = c.from_residual-in_err-n.ensures
    ∙ read-over _ _ _ _ c.loop-c.invariant c.requires.0 (search rules)
    (omega (arith, c.in_err-n.ensures, c.in_ok-checked_mul.ensures, c.in_ok-d.ensures))

pub loop-c-preserved : goal.loop-c-preserved
loop-c-preserved c = read_next _ _ _ _ c.loop-c.invariant (search rules)
    (rw c.in_ok-d.ensures.0 at c.in_ok-d.ensures.1)
    (omega (arith, c.in_ok-n.ensures, c.in_ok-checked_mul.ensures, c.in_ok-d.ensures))
    (omega (arith, c.in_ok-n.ensures))

pub returns-then-is_empty : goal.returns-then-is_empty
returns-then-is_empty c = read-none _ _ (search rules)

pub returns-else-is_empty : goal.returns-else-is_empty
returns-else-is_empty c = read-last _ _ _ _ c.loop-c.invariant (search rules) (search rules)
