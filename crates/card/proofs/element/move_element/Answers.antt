use native.Mathlib.Omega.{arith}
use Rattle.card.proofs.ElementLaws.{moved, narrow_width}
use Rattle.card.proofs.element.move_element.Goals as goal

pub fetch4-requires : goal.fetch4-requires
fetch4-requires g c = rw c.if-this-eq4.true at c.requires.1

pub store4-requires : goal.store4-requires
store4-requires g c = rw c.if-this-eq4.true at c.requires.2

pub fetch2-requires : goal.fetch2-requires
fetch2-requires g c = rw (narrow_width _ c.requires.0 c.if-this-eq4.false) at c.requires.1

pub store2-requires : goal.store2-requires
store2-requires g c = rw (narrow_width _ c.requires.0 c.if-this-eq4.false) at c.requires.2

pub returns-then-this-eq4 : goal.returns-then-this-eq4
returns-then-this-eq4 g c =
    let w = c.if-this-eq4.true in
    let a = c.args in
    rw w (moved 4 a.src.now a.dst.now _ a.i a.j _ (rw w at c.requires.1) (λ k l. omega (arith, c.type_inv.src k)) c.fetch4.ensures c.store4.ensures)

pub returns-else-this-eq4 : goal.returns-else-this-eq4
returns-else-this-eq4 g c =
    let w = narrow_width _ c.requires.0 c.if-this-eq4.false in
    let a = c.args in
    rw w (moved 2 a.src.now a.dst.now _ a.i a.j _ (rw w at c.requires.1) (λ k l. omega (arith, c.type_inv.src k)) c.fetch2.ensures c.store2.ensures)
