use native.Mathlib.Omega.{arith}
use Prim.Native.Nat.{◌*◌, ◌≤◌, ◌<◌}
use mathlib.Core.Path.{◌≡◌, ap}
use Rattle.lbp16.specs.declared.space.Row.{Row}
use Rattle.lbp16.specs.declared.word.Fields.{Fields}
use Rattle.packet.specs.Command.{row_of, kind_of}
use Rattle.packet.proofs.ElementLaws.{scaled_le, row_le}
use Rattle.packet.proofs.refusal.span_by.Goals as goal

below : (f : Fields) (row : Row) → f.count < 256 → row ≡ row_of f → f.count * row.element ≤ 1020
below f row h e = scaled_le _ _ h (rw e (row_le f))

pub overflow_mul-result : goal.overflow_mul-result
overflow_mul-result c = let h = below c.args.f c.args.row (omega arith) c.requires in omega arith

pub returns-then-f : goal.returns-then-f
unfolding row_of kind_of
returns-then-f c = rw c.if-f.true
    (ap (λ (r : Row). c.args.f.count * r.element) c.requires, below c.args.f c.args.row (omega arith) c.requires)

pub returns-else-f : goal.returns-else-f
unfolding row_of kind_of
returns-else-f c = rw c.if-f.false (ap (λ (r : Row). r.element) c.requires, rw c.requires (let h = row_le c.args.f in omega arith))
