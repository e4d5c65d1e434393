use borrow.Author.Rules.{rules}
use Rattle.sserial.proofs.ChannelLaws.{rows-first, rows_more, rows_all}
use Rattle.sserial.proofs.channels.put_channels.Goals as goal

pub loop-i-init : goal.loop-i-init
loop-i-init c = rows-first _ _ c.requires

pub loop-i-preserved : goal.loop-i-preserved
loop-i-preserved c = let p = c.put_row.ensures in
    rows_more _ _ _ _ (search rules) c.loop-i.invariant _ c.loop-i-test.true p.1 p.0

pub returns : goal.returns
returns c = rows_all _ _ _ _ (search rules) c.loop-i.invariant c.loop-i-test.false c.requires
