use native.Mathlib.Omega.{arith}
use mathlib.Core.Path.{◌∙◌}
use Rattle.card.proofs.CellLaws.{one-within, last-stays, none_stays}
use Rattle.card.proofs.cells.store_last.Goals as goal

pub returns-then-words-eq1 : goal.returns-then-words-eq1
returns-then-words-eq1 c = let a = c.args in
    none_stays a.words.now a.at a.store.now c.if-words-eq1.true

pub store4-requires : goal.store4-requires
store4-requires c = let more = c.if-words-eq1.false in
    let some = c.requires.0 in
    one-within c.args.words.now c.args.at _ (omega arith) c.requires.1

pub returns : goal.returns
returns c = let more = c.if-words-eq1.false in
    let some = c.requires.0 in
    c.store4.ensures ∙ last-stays c.args.words.now c.args.at c.args.store.now (omega arith)
