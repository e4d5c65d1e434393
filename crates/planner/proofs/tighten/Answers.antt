use Rattle.std.proofs.lemmas.Result.{err_from_is_err_and}
use Rattle.planner.proofs.TightenLaws.{packs_of, promised, turned-away_all, too_small-all}
use Rattle.planner.proofs.tighten.Goals as goal

-- a lemma's facts, as the clauses have names
named3 : {A B C R : Type 0} → (A → B → C → R) → A × (B × C) → R
named3 f h = f h.0 h.1.0 h.1.1

pub returns-in_err-packed : goal.returns-in_err-packed
returns-in_err-packed c =
    let p = err_from_is_err_and c.from_residual.result c.from_residual.ensures.1 in
    rw (p.1, p.2) (named3 (λ h0 h1 h2. record { tightened = h0; eight = h1; demand3 = h2 }) (turned-away_all _ _ _ c.in_err-packed.ensures))

pub returns-then-out-packed : goal.returns-then-out-packed
returns-then-out-packed c =
    rw c.at.ensures (named3 (λ h0 h1 h2. record { tightened = h0; eight = h1; demand3 = h2 })
    (too_small-all _ _ _ c.in_ok-packed.ensures c.if-out-packed.true))

pub improved-requires : goal.improved-requires
improved-requires c = (packs_of _ _ c.in_ok-packed.ensures, c.if-out-packed.false)

pub returns : goal.returns
returns c = named3 (λ h0 h1 h2. record { tightened = h0; eight = h1; demand3 = h2 }) (promised _ _ _ _ c.improved.ensures.tightened c.improved.ensures.eight)
