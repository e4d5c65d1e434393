use mathlib.Core.Path.{sym, ◌∙◌}
use native.Mathlib.Omega.{arith}
use borrow.Author.Rules.{rules}
use Rattle.cue_text.specs.Words.{is_blank}
use Rattle.cue_text.specs.Inside.{blanks}
use Rattle.cue_text.proofs.WordLaws.{front-more, front-here, front-end}
use Rattle.cue_text.proofs.word.past_blanks.Goals as goal

pub returns-then-not-is_blank : goal.returns-then-not-is_blank
unfolding blanks
returns-then-not-is_blank c = let a = c.args in
    let e = front-here is_blank a.rest.now c.loop-i.i (search rules) (sym c.is_blank.ensures ∙ c.if-not-is_blank.true) in
    (omega (arith, c.loop-i.invariant), search rules)

pub loop-i-preserved : goal.loop-i-preserved
unfolding blanks
loop-i-preserved c = let a = c.args in
    let e = front-more is_blank a.rest.now c.loop-i.i (search rules) (sym c.is_blank.ensures ∙ c.if-not-is_blank.false) in
    omega (arith, c.loop-i.invariant)

pub returns : goal.returns
unfolding blanks
returns c = let a = c.args in
    let e = front-end is_blank a.rest.now c.loop-i.i (omega arith) in
    (omega (arith, c.loop-i.invariant, c.loop-i.auto.i-end), omega arith)
