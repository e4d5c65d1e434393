use borrow.Author.Rules.{rules}
use mathlib.Core.Path.{refl, sym, ◌∙◌}
use Rattle.sserial.proofs.LayoutLaws.{bits_below}
use Rattle.sserial.proofs.WalkLaws.{packing_first, packing_wide, packing_room, packing_more, packing_bad, packing_done}
use Rattle.sserial.proofs.pack.pack_values.Goals as goal

pub loop-v-init : goal.loop-v-init
loop-v-init c = let p = c.requires in packing_first _ _ p.count p.wide p.fits

pub in_range-requires : goal.in_range-requires
in_range-requires c = packing_wide c.loop-v.invariant _ _ c.in_ok-f.ensures.steps

pub returns-then-not-in_range : goal.returns-then-not-in_range
returns-then-not-in_range c =
    let bad = sym c.in_range.ensures ∙ c.if-not-in_range.true in
    rw (packing_bad c.loop-v.invariant _ _ c.in_ok-f.ensures.steps c.loop-v-test.true bad) refl

pub bits_of-requires : goal.bits_of-requires
bits_of-requires c = packing_wide c.loop-v.invariant _ _ c.in_ok-f.ensures.steps

pub put-more-requires : goal.put-more-requires
put-more-requires c = let i = c.loop-v.invariant in (
  packing_room i _ _ c.in_ok-f.ensures.steps,
  (packing_wide i _ _ c.in_ok-f.ensures.steps).most,
  rw c.bits_of.ensures (bits_below _ _),
  i.free,
  i.each,
)

pub loop-v-preserved : goal.loop-v-preserved
loop-v-preserved c = packing_more
    c.loop-v.invariant _ _
    c.in_ok-f.ensures.steps
    c.loop-v-test.true _ _
    c.bits_of.ensures
    (sym c.in_range.ensures ∙ c.if-not-in_range.false)
    c.put-more.ensures.0
    c.put-more.ensures.1
    (search rules)

pub returns : goal.returns
returns c = let d = packing_done c.loop-v.invariant c.loop-v-test.false in rw (d.0, d.1) refl
