use mathlib.Core.Path.{refl, sym, ap, ◌∙◌}
use borrow.Author.Tests.{eq-eqb}
use Rattle.packet.specs.Verdict.{answer_to}
use Rattle.packet.proofs.VerdictLaws.{refused_by}
use Rattle.card.specs.Run.{bad_state}
use Rattle.card.proofs.AnswerLaws.{lent_other, lent-checked, check-state, check-long, check-judge}
use Rattle.card.proofs.check.check_lent.Goals as goal

pub returns-then-lent-ne8 : goal.returns-then-lent-ne8
unfolding answer_to
returns-then-lent-ne8 c = refused_by _ _ _ c.at.ensures ∙ ap answer_to (sym (lent_other _ _ _ c.if-lent-ne8.true))

pub returns-then-bad_state : goal.returns-then-bad_state
unfolding answer_to
returns-then-bad_state c = lent-checked _ _ _ _
    c.if-lent-ne8.false _
    (check-state _ _ _
    (sym (c.bad_state.ensures ∙ ap (bad_state _) c.from_lent.ensures)
    ∙ c.if-bad_state.true))
    (refused_by _ _ _ c.at-then-bad_state.ensures)

pub returns-then-packet-gt-LIMIT : goal.returns-then-packet-gt-LIMIT
unfolding answer_to
returns-then-packet-gt-LIMIT c = lent-checked _ _ _ _
    c.if-lent-ne8.false _
    (check-long _ _ _
    (sym (c.bad_state.ensures ∙ ap (bad_state _) c.from_lent.ensures)
    ∙ c.if-bad_state.false)
    c.if-packet-gt-LIMIT.true)
    (refused_by _ _ _ c.at-then-packet-gt-LIMIT.ensures)

pub returns : goal.returns
returns c = lent-checked _ _ _ _
    c.if-lent-ne8.false _
    (check-judge _ _ _
    (sym
    (c.bad_state.ensures
    ∙ ap (bad_state _) c.from_lent.ensures)
    ∙ c.if-bad_state.false)
    c.if-packet-gt-LIMIT.false)
    (c.judge_lent.ensures ∙ rw (eq-eqb _ _ c.if-lent-ne8.false) refl)
