use Rattle.std.proofs.Common.{refl}
use borrow.Author.Tests.{lt-ltb, le-ltb}
use Rattle.packet.specs.Rules.{first}
use Rattle.cue.specs.Records.{mark_at, record_kind}
use Rattle.list_reason.specs.ListReason.{mark_causes}
use Rattle.list_reason.proofs.mark_cause.Goals as goal

pub returns-then-unknown : goal.returns-then-unknown
unfolding first mark_causes mark_at record_kind
returns-then-unknown c = rw (← c.pair_at-mark.ensures, ← c.record_bytes.ensures.0, c.if-unknown.true) refl

pub returns-then-cut : goal.returns-then-cut
unfolding first mark_causes mark_at record_kind
returns-then-cut c = rw (← c.pair_at-mark.ensures, ← c.record_bytes.ensures.0, c.if-unknown.false, lt-ltb _ _ c.if-cut.true) refl

pub returns : goal.returns
unfolding first mark_causes mark_at record_kind
returns c = rw (← c.pair_at-mark.ensures, ← c.record_bytes.ensures.0, c.if-unknown.false, le-ltb _ _ c.if-cut.false) refl
