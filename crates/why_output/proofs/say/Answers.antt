use native.Mathlib.Omega.{arith}
use borrow.Author.Tests.{lt-ltb, le-ltb, ne_eqb}
use Rattle.reason.specs.Reason.{reason_listed, unnamed}
use Rattle.why_output.specs.Wording.{said_of}
use Rattle.text.proofs.RoomLaws.{put_then}
use Rattle.why_output.proofs.say.Goals as goal

pub returns-in_default : goal.returns-in_default
unfolding said_of reason_listed unnamed
returns-in_default c = rw c.in_default.is c.accepted.ensures

pub returns-then-r-lt3 : goal.returns-then-r-lt3
unfolding said_of reason_listed
returns-then-r-lt3 c =
    let some = rw c.in-Some.is at c.requires in
    rw (c.in-Some.is, ne_eqb c.in-Some.r.number 0 (λ z. omega (arith, some)), lt-ltb c.in-Some.r.number 3 c.if-r-lt3.true) c.put_refused-at.ensures

pub returns : goal.returns
unfolding said_of reason_listed
returns c =
    let some = rw c.in-Some.is at c.requires in
    rw (c.in-Some.is, ne_eqb c.in-Some.r.number 0 (λ z. omega (arith, some)), le-ltb c.in-Some.r.number 3 c.if-r-lt3.false)
    (put_then _ _ _ _ (put_then _ _ _ _ c.put_refused-at.ensures c.put_command-at.ensures) c.front.ensures)
