use native.Mathlib.Omega.{arith}
use mathlib.Core.Path.{refl, ap}
use Rattle.std.specs.Prelude.{Ok}
use Rattle.std.proofs.lemmas.Result.{err_from_is_err_and}
use Rattle.why_output.proofs.HexLaws.{reading-start, reading-bad, reading-blank, reading-byte, reading-end, byte-within}
use Rattle.why_output.proofs.hex.read.Goals as goal

pub loop-i-init : goal.loop-i-init
loop-i-init c = reading-start _ _

pub shape_of-room-in_err-turn : goal.shape_of-room-in_err-turn
shape_of-room-in_err-turn c = c.loop-i.invariant.room-bytes

pub returns-in_err-turn : goal.returns-in_err-turn
returns-in_err-turn c =
    let p = err_from_is_err_and c.from_residual.result c.from_residual.ensures.1 in
    rw (p.1, p.2) (reading-bad c.loop-i.invariant c.loop-i-test.true c.in_err-turn.ensures _ refl _)

pub loop-i-preserved-in-None : goal.loop-i-preserved-in-None
loop-i-preserved-in-None c = reading-blank c.loop-i.invariant c.loop-i-test.true c.in_ok-turn.ensures (ap Ok c.in-None.is)

pub overflow_add-i-in-Some : goal.overflow_add-i-in-Some
overflow_add-i-in-Some c = let w = byte-within _ _ c.loop-i-test.true c.in_ok-turn.ensures _ (ap Ok c.in-Some.is) in omega arith

pub loop-i-preserved : goal.loop-i-preserved
loop-i-preserved c = reading-byte c.loop-i.invariant c.loop-i-test.true c.in_ok-turn.ensures _ (ap Ok c.in-Some.is) c.put-n.ensures

pub shape_of-room : goal.shape_of-room
shape_of-room c = c.loop-i.invariant.room-bytes

pub returns : goal.returns
returns c = reading-end c.loop-i.invariant c.loop-i-test.false
