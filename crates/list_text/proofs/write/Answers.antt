use Rattle.std.proofs.Common.{[], Err, refl}
use Rattle.std.proofs.lemmas.Result.{err_from_is_err_and}
use Rattle.cue_text.specs.Assembled.{text_listed, left}
use Rattle.list_text.proofs.WriteLaws.{turned-away, too_small, may_write, all-written, same-written}
use Rattle.list_text.proofs.write.Goals as goal

pub returns-in_err-needed : goal.returns-in_err-needed
unfolding text_listed left
returns-in_err-needed c =
    let p = err_from_is_err_and c.from_residual.result c.from_residual.ensures.1 in
    let r = turned-away _ _ (Err _) (rw c.in_err-needed.was at c.text_needed.ensures) _ refl in
    rw (p.1, p.2) (record { written = r; same_list = same-written _ _ (λ i h. (c.type_inv.list i).fits) _ _ r })

pub returns-then-out-needed : goal.returns-then-out-needed
unfolding text_listed left
returns-then-out-needed c =
    let r = too_small _ _ _ c.text_needed.ensures _ c.in_ok-needed.was c.if-out-needed.true in
    rw c.at.ensures (record { written = r; same_list = same-written _ _ (λ i h. (c.type_inv.list i).fits) _ _ r })

pub put_lines-requires : goal.put_lines-requires
put_lines-requires c = may_write _ [] _ c.text_needed.ensures _ c.in_ok-needed.was

pub returns : goal.returns
unfolding text_listed left
returns c =
    let r = all-written _ _ _ c.text_needed.ensures _ c.in_ok-needed.was _ c.if-out-needed.false c.put_lines.ensures in
    record { written = r; same_list = same-written _ _ (λ j h. (c.type_inv.list j).fits) _ _ r }
