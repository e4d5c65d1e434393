use Rattle.std.proofs.Common.{refl, rules, ne_eqb}
use Rattle.cue_text.specs.Inside.{word_numbered}
use Rattle.cue_text.proofs.fault.word_numbered.Goals as goal

pub returns-in-0 : goal.returns-in-0
unfolding word_numbered
returns-in-0 c = rw c.in-0.is refl

pub returns-in-1 : goal.returns-in-1
unfolding word_numbered
returns-in-1 c = rw c.in-1.is refl

pub returns-in-2 : goal.returns-in-2
unfolding word_numbered
returns-in-2 c = rw c.in-2.is refl

pub returns-in_default : goal.returns-in_default
unfolding word_numbered
returns-in_default c =
    rw (ne_eqb c.args.k 0 (search rules), ne_eqb c.args.k 1 (search rules), ne_eqb c.args.k 2 (search rules)) refl
