use Rattle.cue.specs.Records.{record_at, mark_at}
use Rattle.cue.proofs.records.record_at.Goals as goal

pub returns : goal.returns
unfolding record_at mark_at
returns c = simp (c.pair_at-2.ensures, c.byte_at.ensures, c.pair_at.ensures)
