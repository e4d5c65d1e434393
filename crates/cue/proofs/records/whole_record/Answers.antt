use mathlib.Core.Path.{◌∙◌}
use native.Mathlib.Omega.{arith}
use lib.ListN.{length-take}
use Rattle.cue.proofs.ReadingLaws.{record_front}
use Rattle.cue.proofs.records.whole_record.Goals as goal

pub slice_bounds-record_at-end : goal.slice_bounds-record_at-end
slice_bounds-record_at-end c = rw length-take (omega arith)

pub returns : goal.returns
returns c = c.record_at.ensures ∙ record_front _
