use Rattle.salvage.proofs.SpanLaws.{size_is}
use Rattle.salvage.proofs.scan.size_at.Goals as goal

pub returns : goal.returns
returns c = size_is _ _ _ c.record_at-r.ensures c.record_bytes.ensures.0
