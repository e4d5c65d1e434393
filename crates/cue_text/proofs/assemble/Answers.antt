use Rattle.std.proofs.Common.{Err}
use Rattle.std.proofs.lemmas.Result.{err_from_is_err_and}
use Rattle.lbp16.specs.declared.Rule.{Rule}
use Rattle.cue_text.specs.Assembled.{text_listed, left}
use Rattle.cue_text.proofs.AssembleLaws.{answer-refused, good, answer-small, answer-whole, lent_none, shown}
use Rattle.cue_text.proofs.assemble.Goals as goal

-- a lemma's facts, as the clauses have names
named2 : {A B R : Type 0} → (A → B → R) → A × B → R
named2 f h = f h.0 h.1

pub returns-in_err-checked : goal.returns-in_err-checked
unfolding left text_listed
returns-in_err-checked c =
    let e = lent_none c.args.out.now c.walk.new.out c.walk.auto.out in
    let p = err_from_is_err_and c.from_residual.result c.from_residual.ensures.1 in
    let a = rw c.in_err-checked.was at c.walk.ensures.answer in
    rw (p.1, p.2, e) (named2 (λ h0 h1. record { assembled = h0; text_show = h1 }) (shown _ _ _ (Err _) (answer-refused _ _ _ a)))

pub returns-then-out-checked : goal.returns-then-out-checked
unfolding left text_listed
returns-then-out-checked c =
    let e = lent_none c.args.out.now c.walk.new.out c.walk.auto.out in
    let g = good _ _ _ _ (rw c.in_ok-checked.was at c.walk.ensures.answer) in
    let r = Err (record { rule = Rule.Room; place = c.in_ok-checked.checked.bytes }) in
    rw (c.at.ensures, e)
    (named2 (λ h0 h1. record { assembled = h0; text_show = h1 }) (shown _ _ _ r (answer-small _ _ _ _ g (rw e at c.if-out-checked.true))))

pub returns : goal.returns
unfolding left text_listed
returns c =
    let e = lent_none c.args.out.now c.walk.new.out c.walk.auto.out in
    let g = good _ _ _ _ (rw c.in_ok-checked.was at c.walk.ensures.answer) in
    let s = c.walk-2.ensures in
    named2 (λ h0 h1. record { assembled = h0; text_show = h1 })
    (shown _ _ _ c.walk-2.result (answer-whole _ _ _ _ g (rw e at c.if-out-checked.false) s.answer (rw e at s.out_after)))
