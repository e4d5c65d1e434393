use borrow.Author.Rules.{rules}
use native.Mathlib.Omega.{arith}
use Rattle.recording.proofs.ReplyLaws.{wrong_here, wrong_past, wrong_none}
use Rattle.recording.proofs.pair.first_wrong.Goals as goal

pub returns-then-expected-i : goal.returns-then-expected-i
returns-then-expected-i c = let a = c.args in
    let e = wrong_here a.expected.now a.found.now c.loop-i.i (search rules) (search rules) c.if-expected-i.true in
    record { place = omega (arith, c.loop-i.invariant); inside = search rules }

pub loop-i-preserved : goal.loop-i-preserved
loop-i-preserved c = let a = c.args in
    let e = wrong_past a.expected.now a.found.now c.loop-i.i (search rules) (search rules) c.if-expected-i.false in
    omega (arith, c.loop-i.invariant)

pub returns : goal.returns
returns c = let a = c.args in
    let e = wrong_none a.expected.now a.found.now c.loop-i.i (omega arith) in
    record { place = omega (arith, c.loop-i.invariant, c.loop-i.auto.i-end); inside = tt }
