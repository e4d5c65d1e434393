use native.Mathlib.Nat.{mod-lt}
use lib.Pow.{pow_pos}
use Rattle.sserial.proofs.WalkLaws.{reading-wide, reading-room, reading-more, reading-done}
use Rattle.sserial.proofs.pack.read.Goals as goal

pub get-requires : goal.get-requires
get-requires c = let i = c.loop-v.invariant in (
  reading-room i _ _ c.in-Some.ensures.steps,
  (reading-wide i _ _ c.in-Some.ensures.steps).most,
  c.requires.1,
)

pub value_of-requires : goal.value_of-requires
value_of-requires c =
    (reading-wide c.loop-v.invariant _ _ c.in-Some.ensures.steps, rw c.get.ensures (mod-lt _ (pow_pos _)))

pub loop-v-preserved : goal.loop-v-preserved
loop-v-preserved c = reading-more
    c.loop-v.invariant _ _
    c.in-Some.ensures.steps
    (rw c.loop-v.auto.v-items c.loop-v-test.true) _ _
    c.get.ensures
    c.value_of.ensures

pub returns : goal.returns
returns c = reading-done c.loop-v.invariant (rw c.loop-v.auto.v-items c.loop-v-test.false)
