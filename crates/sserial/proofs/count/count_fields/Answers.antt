use native.Mathlib.Omega.{arith}
use lib.ListN.{length}
use mathlib.Core.Path.{ap, ◌∙◌}
use Prim.Native.Nat.{◌+◌, ◌≤◌}
use Rattle.sserial.specs.Calls.{table_listed}
use Rattle.sserial.proofs.TableLaws.{readable, entry-lent}
use Rattle.sserial.proofs.CountLaws.{counting-first, count-ended, count_cut, count-mode, count-more}
use Rattle.sserial.proofs.count.count_fields.Goals as goal
use Rattle.sserial.proofs.count.count_fields.Goals.{in-Mode, in-Field}

pub loop-f-init : goal.loop-f-init
loop-f-init c = counting-first _ _

pub returns-in-End : goal.returns-in-End
returns-in-End c = c.answered.ensures
    ∙ count-ended c.loop-f.invariant _ c.entry_at-entry.ensures c.in-End.is

pub returns-in-Unreadable : goal.returns-in-Unreadable
unfolding table_listed
returns-in-Unreadable c = rw c.at.ensures (count_cut c.loop-f.invariant _ c.entry_at-entry.ensures c.in-Unreadable.is)

lent : (c : goal.Joined-entry) → c.loop-f.at + 2 ≤ length c.args.memory.now
lent c = elim c.match-entry.branch [
  | in-Mode w ↦ entry-lent _ _ _ c.entry_at-entry.ensures (ap readable w.in-Mode.is)
  | in-Field w ↦ entry-lent _ _ _ c.entry_at-entry.ensures (ap readable w.in-Field.is)
]

pub overflow_add-at : goal.overflow_add-at
overflow_add-at c = let h = lent c in omega arith

pub loop-f-smaller : goal.loop-f-smaller
loop-f-smaller c = let h = lent c in omega arith

pub loop-f-preserved : goal.loop-f-preserved
loop-f-preserved c = elim c.match-entry.branch [
  | in-Mode w ↦ count-mode c.loop-f.invariant _ c.entry_at-entry.ensures w.in-Mode.is _ w.s-is
  | in-Field w ↦ count-more c.loop-f.invariant _ _ c.entry_at-entry.ensures w.in-Field.is _ (w.s-is ∙ w.sums_more-s.ensures)
]
