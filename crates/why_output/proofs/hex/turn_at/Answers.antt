use mathlib.Core.Path.{refl}
use Rattle.std.proofs.lemmas.Result.{err_from_is_err_and}
use Rattle.why_output.proofs.HexLaws.{turn-blank, turn-bad, turn-half, turn_byte}
use Rattle.why_output.proofs.hex.turn_at.Goals as goal

pub returns-then-is_blank : goal.returns-then-is_blank
returns-then-is_blank c = turn-blank _ _ c.is_blank.ensures c.if-is_blank.true

pub returns-in_err-high : goal.returns-in_err-high
returns-in_err-high c =
    let p = err_from_is_err_and c.from_residual.result c.from_residual.ensures.1 in
    let e = c.in_err-high.ensures in
    rw (p.1, p.2) (turn-bad _ _ c.is_blank.ensures c.if-is_blank.false e.0 e.1)

pub returns-in_err-low : goal.returns-in_err-low
returns-in_err-low c =
    let p = err_from_is_err_and c.from_residual-in_err-low.result c.from_residual-in_err-low.ensures.1 in
    let high = c.in_ok-high.ensures in
    let e = c.in_err-low.ensures in
    rw (p.1, p.2) (turn-half _ _ c.is_blank.ensures c.if-is_blank.false high.0 high.1 e.0 e.1)

pub returns : goal.returns
returns c =
    let high = c.in_ok-high.ensures in
    let low = c.in_ok-low.ensures in
    turn_byte _ _ c.is_blank.ensures c.if-is_blank.false high.0 high.1 low.0 low.1 refl
