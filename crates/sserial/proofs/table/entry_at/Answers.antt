use mathlib.Core.Path.{sym, ◌∙◌}
use native.Mathlib.Omega.{arith}
use Rattle.sserial.proofs.TableLaws.{entry-cut, entry-end, entry_record}
use Rattle.sserial.proofs.table.entry_at.Goals as goal

pub returns-then-memory-at : goal.returns-then-memory-at
returns-then-memory-at c = let h = c.if-memory-at.true in sym (entry-cut _ _ (omega arith))

pub returns-then-memory-at-lt2 : goal.returns-then-memory-at-lt2
returns-then-memory-at-lt2 c = let h = c.if-memory-at-lt2.true in sym (entry-cut _ _ (omega arith))

pub returns-in-0 : goal.returns-in-0
returns-in-0 c = sym (entry-end _ _ (omega arith) _ c.pair_at.ensures.0 c.in-0.is)

pub returns-in_default : goal.returns-in_default
returns-in_default c = c.record_at.ensures ∙ sym (entry_record _ _ (omega arith) _ c.pair_at.ensures.0 (grind arith))
