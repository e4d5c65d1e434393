use mathlib.Core.Path.{sym}
use native.Mathlib.Omega.{arith}
use Rattle.sserial.proofs.TableLaws.{name-cut, field-lent, unlisted, listed}
use Rattle.sserial.specs.Table.{field_of, name_place}
use Rattle.sserial.proofs.table.field_record.Goals as goal

pub returns-then-memory-nul_of : goal.returns-then-memory-nul_of
returns-then-memory-nul_of c = sym (name-cut _ _ _ _ c.nul_of-name.ensures.0 c.nul_of.ensures.0 c.if-memory-nul_of.true)

pub bounds-memory-p : goal.bounds-memory-p
bounds-memory-p c = let h = field-lent _ _ _ _ c.nul_of-name.ensures.0 c.nul_of.ensures.0 c.if-memory-nul_of.false in omega arith

pub bounds-memory-p-2 : goal.bounds-memory-p-2
bounds-memory-p-2 c = let h = field-lent _ _ _ _ c.nul_of-name.ensures.0 c.nul_of.ensures.0 c.if-memory-nul_of.false in omega arith

pub returns-then-not-listed : goal.returns-then-not-listed
returns-then-not-listed c = sym
    (unlisted _ _ _ _
    c.nul_of-name.ensures.0
    c.nul_of.ensures.0
    c.if-memory-nul_of.false _
    c.is_direction.ensures
    c.if-not-listed.true)

pub bounds-memory-p-3 : goal.bounds-memory-p-3
bounds-memory-p-3 c = let h = field-lent _ _ _ _ c.nul_of-name.ensures.0 c.nul_of.ensures.0 c.if-memory-nul_of.false in omega arith

pub quad_at-requires : goal.quad_at-requires
quad_at-requires c = let h = field-lent _ _ _ _ c.nul_of-name.ensures.0 c.nul_of.ensures.0 c.if-memory-nul_of.false in omega arith

pub quad_at-requires-2 : goal.quad_at-requires-2
quad_at-requires-2 c = let h = field-lent _ _ _ _ c.nul_of-name.ensures.0 c.nul_of.ensures.0 c.if-memory-nul_of.false in omega arith

pub returns : goal.returns
unfolding field_of name_place
returns c = simp (
  listed _ _ _ _
      c.nul_of-name.ensures.0
      c.nul_of.ensures.0
      c.if-memory-nul_of.false _
      c.is_direction.ensures
      c.if-not-listed.false,
  c.quad_at.ensures,
  c.quad_at-2.ensures,
  c.nul_of-name.ensures.0,
)
