use Rattle.cue.proofs.FrameLaws.{front-end, front-short, front-unmarked, front_cut, front-frame}
use Rattle.cue.proofs.frame.frame_at.Goals as goal

pub returns-then-rest-eq0 : goal.returns-then-rest-eq0
returns-then-rest-eq0 c = front-end _ c.if-rest-eq0.true

pub returns-then-rest-lt2 : goal.returns-then-rest-lt2
returns-then-rest-lt2 c = front-short _ c.if-rest-eq0.false c.if-rest-lt2.true

pub returns-then-pair_at-ne-MARK : goal.returns-then-pair_at-ne-MARK
returns-then-pair_at-ne-MARK c = front-unmarked _ c.if-rest-lt2.false _ c.pair_at.ensures c.if-pair_at-ne-MARK.true

pub returns-then-rest-n : goal.returns-then-rest-n
returns-then-rest-n c = front_cut _ c.if-rest-lt2.false _ c.pair_at.ensures c.if-pair_at-ne-MARK.false _ c.pair_at-n.ensures
    c.if-rest-n.true

pub returns : goal.returns
returns c = front-frame _ _ c.pair_at.ensures c.if-pair_at-ne-MARK.false _ c.pair_at-n.ensures c.if-rest-n.false
