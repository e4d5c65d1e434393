use Prim.Native.Nat.{◌+◌}
use mathlib.Core.Path.{sym, ◌∙◌}
use native.Mathlib.Omega.{arith}
use borrow.Author.Tests.{lt-ltb, le-ltb}
use Rattle.sserial.proofs.TableLaws.{nul_from, mode-cut, mode-read}
use Rattle.sserial.proofs.table.mode_record.Goals as goal

pub returns-then-memory-nul_of : goal.returns-then-memory-nul_of
returns-then-memory-nul_of c = sym (mode-cut _ _ (omega (arith, c.nul_of.ensures)))

pub bounds-memory-p : goal.bounds-memory-p
bounds-memory-p c = let h = nul_from c.args.memory.now (c.args.p + 4) in omega (arith, c.nul_of.ensures)

pub returns-then-memory-p-lt2 : goal.returns-then-memory-p-lt2
returns-then-memory-p-lt2 c = sym (mode-read _ _ (omega (arith, c.nul_of.ensures)) ∙ rw (lt-ltb _ _ c.if-memory-p-lt2.true))

pub returns-else-memory-p-lt2 : goal.returns-else-memory-p-lt2
returns-else-memory-p-lt2 c = sym (mode-read _ _ (omega (arith, c.nul_of.ensures)) ∙ rw (le-ltb _ _ c.if-memory-p-lt2.false))
