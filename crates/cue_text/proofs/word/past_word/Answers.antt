use mathlib.Core.Path.{sym, ◌∙◌}
use native.Mathlib.Omega.{arith}
use borrow.Author.Rules.{rules}
use Rattle.cue_text.specs.Inside.{in_word, word_bytes}
use Rattle.cue_text.proofs.WordLaws.{front-more, front-here, front-end}
use Rattle.cue_text.proofs.word.past_word.Goals as goal

pub returns-then-not-in_word : goal.returns-then-not-in_word
unfolding word_bytes
returns-then-not-in_word c = let a = c.args in
    let e = front-here in_word a.rest.now c.loop-i.i (search rules) (sym c.in_word.ensures ∙ c.if-not-in_word.true) in
    (omega (arith, c.loop-i.invariant), search rules)

pub loop-i-preserved : goal.loop-i-preserved
unfolding word_bytes
loop-i-preserved c = let a = c.args in
    let e = front-more in_word a.rest.now c.loop-i.i (search rules) (sym c.in_word.ensures ∙ c.if-not-in_word.false) in
    omega (arith, c.loop-i.invariant)

pub returns : goal.returns
unfolding word_bytes
returns c = let a = c.args in
    let e = front-end in_word a.rest.now c.loop-i.i (omega arith) in
    (omega (arith, c.loop-i.invariant, c.loop-i.auto.i-end), omega arith)
