use Rattle.cue_text.proofs.SaidLaws.{ten_taken}
use Rattle.cue_text.proofs.WalkLaws.{cue-put}
use Rattle.cue_text.proofs.walk.put_cue.Goals as goal

pub slice_bounds-put-end : goal.slice_bounds-put-end
slice_bounds-put-end c = ten_taken _ _ _ c.bytes_of-b.ensures c.record_bytes-n.ensures.0

pub returns : goal.returns
returns c = cue-put _ _ _ _ _ c.bytes_of-b.ensures c.record_bytes-n.ensures.0 c.put.ensures
