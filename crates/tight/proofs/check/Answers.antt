use mathlib.Core.Path.{◌≡◌, sym, ◌∙◌}
use Rattle.std.proofs.Common.{Err}
use Rattle.std.proofs.lemmas.Result.{err_from_is_err_and}
use Rattle.tight.specs.Tight.{checked, check_listed}
use Rattle.tight.specs.declared.Fault.{Fault}
use Rattle.tight.proofs.Demand3Laws.{tight_demand3}
use Rattle.tight.proofs.AnswerLaws.{missing-rejected, list-refused, too_long, gone_through}
use Rattle.tight.proofs.check.Goals as goal

pub returns-then-packed-proposal : goal.returns-then-packed-proposal
unfolding check_listed
returns-then-packed-proposal c =
    let e : check_listed (Err Fault.Rejected) ≡ checked c.args.list.now c.args.proposal.now =
    too_long _ _ _ c.plan.ensures _ c.in_ok-packed.was c.if-packed-proposal.true in
    record { checked = e; demand3 = λ count a. tight_demand3 _ _ count (sym e ∙ a) }

pub returns-in_err-packed : goal.returns-in_err-packed
unfolding check_listed
returns-in_err-packed c =
    let p = err_from_is_err_and c.from_residual.result c.from_residual.ensures.1 in
    let e : check_listed (Err (Fault.List c.in_err-packed.field-0.0)) ≡ checked c.args.list.now c.args.proposal.now =
    list-refused _ _ _ c.plan.ensures _ c.in_err-packed.was in
    rw (p.1, p.2) (record { checked = e; demand3 = λ count a. tight_demand3 _ _ count (sym e ∙ a) })

pub returns : goal.returns
returns c =
    let e : check_listed c.ok_or.result ≡ checked c.args.list.now c.args.proposal.now =
    rw c.ok_or.ensures.value (missing-rejected _
    ∙ gone_through _ _ _ c.plan.ensures _ c.in_ok-packed.was c.if-packed-proposal.false _ c.packets_checked.ensures) in
    record { checked = e; demand3 = λ count a. tight_demand3 _ _ count (sym e ∙ a) }
