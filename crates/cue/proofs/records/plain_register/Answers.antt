use mathlib.Core.Path.{◌≡◌, sym, ◌∙◌}
use native.Mathlib.Omega.{arith}
use Prim.Native.Nat.{ℕ, ◌<◌}
use borrow.Author.Tests.{eqb-true}
use Rattle.lbp16.proofs.BoolLaws.{and_true}
use Rattle.cue.specs.Records.{mark_at}
use Rattle.cue.proofs.ReadingLaws.{register-good}
use Rattle.cue.proofs.records.plain_register.Goals as goal

pub returns-then-rest-lt10 : goal.returns-then-rest-lt10
returns-then-rest-lt10 c e index h = let z : ◌≡◌ {A = ℕ} 0 1 = cc in absurd (omega arith)

pub returns : goal.returns
unfolding mark_at
returns c e index h = let address = c.pair_at-address in
    let mark = c.pair_at-mark in
    let aligned = and_true _ _ e in
    let spare = and_true _ _ aligned.0 in
    let space = and_true _ _ spare.0 in
    let below : address.result < 65536 = omega arith in
    register-good _
    c.if-rest-lt10.false
    (rw (← mark.ensures) space.0)
    (sym c.byte_at.ensures ∙ eqb-true _ _ space.1)
    (sym c.byte_at-2.ensures ∙ eqb-true _ _ spare.1) (rw (← address.ensures) (eqb-true _ _ aligned.1))
    (rw (← address.ensures) below) index h
