use Rattle.parts.proofs.SingleLaws.{no_true, marked-few, waits-first, waits-second, waits-later}
use native.Mathlib.Omega.{arith}
use Rattle.parts.proofs.single.waits.Goals as goal

pub overflow_cast-at : goal.overflow_cast-at
overflow_cast-at c = omega (arith, c.type_inv.s 1)

pub returns-then-behind-s : goal.returns-then-behind-s
returns-then-behind-s c = no_true

pub returns-then-at-eq0 : goal.returns-then-at-eq0
returns-then-at-eq0 c = waits-first c.args.s.now c.requires _ _ c.behind_mark-behind.ensures c.if-behind-s.false c.if-at-eq0.true

pub overflow_cast-s : goal.overflow_cast-s
overflow_cast-s c = omega (arith, c.type_inv.s 2)

pub overflow_add-s : goal.overflow_add-s
overflow_add-s c = omega (arith, c.type_inv.s 2, c.ranges.b)

pub returns-then-at-lt2 : goal.returns-then-at-lt2
returns-then-at-lt2 c = λ t. waits-second c.args.s.now c.requires _ _ c.behind_mark-behind.ensures c.if-behind-s.false c.if-at-lt2.true
    c.if-at-eq0.false (c.longer.ensures t)

pub overflow_mul-result : goal.overflow_mul-result
overflow_mul-result c = omega (arith, c.type_inv.s 1)

pub overflow_shr-result : goal.overflow_shr-result
overflow_shr-result c = omega (arith, marked-few (c.longer-2.ensures c.if-longer.true))

pub returns-then-longer : goal.returns-then-longer
returns-then-longer c = waits-later c.args.s.now c.requires _ _ c.behind_mark-behind.ensures c.if-at-lt2.false _
    c.pair_at.ensures (c.longer-2.ensures c.if-longer.true)

pub returns : goal.returns
returns c = no_true
