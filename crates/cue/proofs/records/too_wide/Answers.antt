use Rattle.cue.proofs.ReadingLaws.{too_wide-is}
use Rattle.cue.proofs.records.too_wide.Goals as goal

pub returns : goal.returns
returns c = rw (c.pair_at.ensures, c.byte_at.ensures) (too_wide-is _)
