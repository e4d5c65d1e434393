use mathlib.Core.Path.{refl, ap}
use mathlib.Core.Bool.{true, false}
use borrow.Author.Tests.{not-true, not-false}
use Rattle.packet.specs.Rules.{first}
use Rattle.capture.specs.Inside.{Turn, progress_listed}
use Rattle.capture.proofs.TurnLaws.{turn-told}
use Rattle.capture.proofs.turn.turn_of.Goals as goal

pub returns-in-Other : goal.returns-in-Other
unfolding first
returns-in-Other c = turn-told (progress_listed c.args.p) c.args.d false false _ _ c.in-Other.ensures.0 c.in-Other.ensures.1 refl refl

pub returns-then-d : goal.returns-then-d
unfolding first
returns-then-d c = turn-told (progress_listed c.args.p) c.args.d true false true _ c.in-Request.ensures.0 c.in-Request.ensures.1 c.if-d.true refl

pub returns-else-d : goal.returns-else-d
unfolding first
returns-else-d c = ap (λ (t : Turn). t.number) (turn-told (progress_listed c.args.p) c.args.d true false false _ c.in-Request.ensures.0 c.in-Request.ensures.1 c.if-d.false refl)

pub returns-then-not-d : goal.returns-then-not-d
unfolding first
returns-then-not-d c = ap (λ (t : Turn). t.number) (turn-told (progress_listed c.args.p) c.args.d false true false _ c.in-Reply.ensures.0 c.in-Reply.ensures.1 (not-true _ c.if-not-d.true) refl)

pub returns-then-p : goal.returns-then-p
unfolding first
returns-then-p c = turn-told (progress_listed c.args.p) c.args.d false true true true c.in-Reply.ensures.0 c.in-Reply.ensures.1 (not-false _ c.if-not-d.false) c.if-p.true

pub returns-else-p : goal.returns-else-p
unfolding first
returns-else-p c = ap (λ (t : Turn). t.number) (turn-told (progress_listed c.args.p) c.args.d false true true false c.in-Reply.ensures.0 c.in-Reply.ensures.1 (not-false _ c.if-not-d.false) c.if-p.false)
