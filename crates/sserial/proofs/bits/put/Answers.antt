use borrow.Author.Rules.{rules}
use Rattle.sserial.proofs.BitLaws.{put-more}
use Rattle.sserial.proofs.bits.put.Goals as goal

pub loop-left-preserved : goal.loop-left-preserved
loop-left-preserved c = let i = c.loop-left.invariant in (
  i.0,
  put-more
      i.1 _ _ _
      c.within-n.ensures.0
      c.power-p.ensures
      c.put_chunk-next.ensures.0
      c.put_chunk-next.ensures.1
      (search rules),
)
