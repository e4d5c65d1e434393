use mathlib.Core.Path.{refl}
use mathlib.Core.Bool.{true, false}
use Rattle.packet.specs.Step.{is_write}
use Rattle.cue.specs.Records.{record_bytes}
use Rattle.parts.proofs.SingleLaws.{no_true, marked}
use Rattle.parts.proofs.single.longer.Goals as goal

pub returns-then-mark-eq-WRITE_MARK : goal.returns-then-mark-eq-WRITE_MARK
unfolding record_bytes is_write
returns-then-mark-eq-WRITE_MARK c = marked true _ _ _ refl c.if-mark-eq-WRITE_MARK.true

pub returns-then-mark-eq-READ_MARK : goal.returns-then-mark-eq-READ_MARK
unfolding record_bytes is_write
returns-then-mark-eq-READ_MARK c = marked false _ _ _ refl c.if-mark-eq-READ_MARK.true

pub returns : goal.returns
returns c = no_true
