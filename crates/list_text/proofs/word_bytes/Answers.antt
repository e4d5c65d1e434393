use borrow.Author.Rules.{rules}
use mathlib.Core.Path.{refl}
use native.Mathlib.Omega.{arith}
use borrow.Author.Tests.{ne_eqb}
use Rattle.text.specs.Number.{ascii}
use Rattle.lbp16.specs.Space.{space_of}
use Rattle.space_text.specs.SpaceText.{space_word}
use Rattle.list_text.proofs.word_bytes.Goals as goal

pub returns-in-0 : goal.returns-in-0
unfolding space_word space_of ascii
returns-in-0 c = rw c.in-0.is (refl, omega arith)

pub returns-in-2 : goal.returns-in-2
unfolding space_word space_of ascii
returns-in-2 c = rw c.in-2.is (refl, omega arith)

pub returns-in-6 : goal.returns-in-6
unfolding space_word space_of ascii
returns-in-6 c = rw c.in-6.is (refl, omega arith)

pub returns-in-7 : goal.returns-in-7
unfolding space_word space_of ascii
returns-in-7 c = rw c.in-7.is (refl, omega arith)

pub returns-in_default : goal.returns-in_default
unfolding space_word space_of
returns-in_default c = rw (
  ne_eqb c.args.space 0 (search rules),
  ne_eqb c.args.space 2 (search rules),
  ne_eqb c.args.space 6 (search rules),
  ne_eqb c.args.space 7 (search rules),
) (refl, omega arith)
