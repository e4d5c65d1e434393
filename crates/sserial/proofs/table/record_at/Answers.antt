use mathlib.Core.Path.{refl}
use Rattle.sserial.specs.Table.{record_at}
use Rattle.sserial.specs.Inside.{field_record, mode_record}
use lib.ListN.{get_or-eq_default}
use native.Mathlib.Omega.{arith}
use Rattle.std.proofs.lemmas.Bool.Decides.{nat_tests}
use Rattle.sserial.proofs.table.record_at.Goals as goal

pub returns-then-memory-at : goal.returns-then-memory-at
unfolding record_at
returns-then-memory-at c = rw (get_or-eq_default c.args.memory.now 0 c.if-memory-at.true) refl

pub returns-in-160 : goal.returns-in-160
unfolding record_at field_record
returns-in-160 c = rw c.in-160.is c.field_record.ensures

pub returns-in-176 : goal.returns-in-176
unfolding record_at mode_record
returns-in-176 c = rw c.in-176.is c.mode_record.ensures

pub returns-in_default : goal.returns-in_default
unfolding record_at
returns-in_default c = grind (arith, nat_tests)
