use mathlib.Core.Path.{refl, sym, ap, ◌∙◌}
use Rattle.packet.specs.Verdict.{verdict_listed}
use Rattle.card.specs.Run.{counted}
use Rattle.card.proofs.AnswerLaws.{may_run_lent, other-room, run_refused, run_done, lent_work}
use Rattle.card.proofs.run.run_lent.Goals as goal
use Rattle.std.specs.Prelude.{Ok}
use Rattle.packet.proofs.VerdictLaws.{refused_by}

pub returns-then-reply-ne-LIMIT : goal.returns-then-reply-ne-LIMIT
returns-then-reply-ne-LIMIT c = let answer = ap verdict_listed c.not_run.ensures.0 ∙ refused_by _ _ _ c.at.ensures in
    let whole = lent_work c.args.packet.now c.args.store.now c.args.lent.now c.args.reply.now _ c.args.store.now c.args.lent.now c.args.reply.now
    (other-room _ _ _ _ c.if-reply-ne-LIMIT.true _ answer c.not_run.ensures.1) in
    record { ran = whole.0; summed = whole.1.0; bounded = whole.1.1 }

pub returns-in_default : goal.returns-in_default
unfolding verdict_listed
returns-in_default c = let told = c.in_default.is in
    let room = c.if-reply-ne-LIMIT.false in
    let answer = ap verdict_listed (c.not_run-in_default.ensures.0 ∙ told) in
    let checked = ap verdict_listed (sym told) ∙ c.check_lent-answer.ensures in
    let whole = lent_work c.args.packet.now c.args.store.now c.args.lent.now c.args.reply.now _ c.args.store.now c.args.lent.now c.args.reply.now
    (run_refused _ _ _ _ room _ _ _ answer checked c.not_run-in_default.ensures.1) in
    record { ran = whole.0; summed = whole.1.0; bounded = whole.1.1 }

pub perform-elements-requires : goal.perform-elements-requires
unfolding verdict_listed
perform-elements-requires c = let checked = ap verdict_listed (sym c.in-Ok.is) ∙ c.check_lent-answer.ensures in
    let m = may_run_lent _ _ _ c.in-Ok.length checked in
    (m.1, m.2, m.0, c.if-reply-ne-LIMIT.false)

pub clear_unlock-requires : goal.clear_unlock-requires
unfolding verdict_listed
clear_unlock-requires c = let checked = ap verdict_listed (sym c.in-Ok.is) ∙ c.check_lent-answer.ensures in
    c.perform-elements.auto.store ∙ (may_run_lent _ _ _ c.in-Ok.length checked).2

pub count_packet-requires : goal.count_packet-requires
unfolding verdict_listed
count_packet-requires c = let checked = ap verdict_listed (sym c.in-Ok.is) ∙ c.check_lent-answer.ensures in
    c.clear_unlock.auto.store ∙ c.perform-elements.auto.store ∙ (may_run_lent _ _ _ c.in-Ok.length checked).2

pub returns : goal.returns
unfolding verdict_listed
returns c = let checked = ap verdict_listed (sym c.in-Ok.is) ∙ c.check_lent-answer.ensures in
    let left = c.count_packet.ensures ∙ ap counted c.clear_unlock.ensures in
    let whole = lent_work c.args.packet.now c.args.store.now c.args.lent.now c.args.reply.now
    (record { answer = Ok c.in-Ok.length; elements = c.perform-elements.result }) c.count_packet.new.store c.perform-elements.new.pointers
    c.perform-elements.new.reply
    (run_done _ _ _ _ c.if-reply-ne-LIMIT.false c.in-Ok.length _ _ _ _ refl checked c.perform-elements.ensures _ left) in
    record { ran = whole.0; summed = whole.1.0; bounded = whole.1.1 }
