use mathlib.Core.Path.{sym}
use Rattle.salvage.specs.Salvage.{salvage_listed}
use Rattle.salvage.proofs.SalvageLaws.{small-room, ready, too_few, all-written}
use Rattle.salvage.proofs.salvage.Goals as goal

pub returns-then-out-list : goal.returns-then-out-list
unfolding salvage_listed
returns-then-out-list c = rw c.at.ensures (sym (small-room _ _ _ c.if-out-list.true))

pub returns-then-log-counts : goal.returns-then-log-counts
unfolding salvage_listed
returns-then-log-counts c = rw c.at-then-log-counts.ensures (sym (too_few _ _ _ _ c.count-counts.ensures c.if-out-list.false c.if-log-counts.true))

pub write-requires : goal.write-requires
write-requires c = ready _ _ _ _ c.count-counts.ensures c.if-out-list.false c.if-log-counts.false

pub returns : goal.returns
unfolding salvage_listed
returns c = sym
    (all-written _ _ _ _
    c.count-counts.ensures
    c.if-out-list.false _ _
    c.if-log-counts.false
    (c.write.ensures.out_after, c.write.ensures.log_after))
