use Rattle.cue_text.proofs.SaidLaws.{ten_taken, refusal_is}
use Rattle.cue_text.proofs.line.ruling_of.Goals as goal

pub slice_bounds-record_refusal-end : goal.slice_bounds-record_refusal-end
slice_bounds-record_refusal-end c = ten_taken _ _ _ c.bytes_of-b.ensures c.record_bytes-n.ensures.0

pub returns : goal.returns
returns c = refusal_is _ _ _ _ c.bytes_of-b.ensures c.record_bytes-n.ensures.0 c.record_refusal.ensures
