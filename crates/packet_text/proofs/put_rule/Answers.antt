use borrow.Author.Tests.{eq-eqb, ne_eqb}
use Rattle.text.specs.Number.{ascii}
use Rattle.packet_text.specs.Wording.{rule_text}
use Rattle.packet_text.proofs.put_rule.Goals as goal

pub returns-then-number-eq1 : goal.returns-then-number-eq1
unfolding rule_text ascii
returns-then-number-eq1 c = rw (eq-eqb _ _ c.if-number-eq1.true) c.put.ensures

pub returns : goal.returns
unfolding rule_text
returns c = rw (ne_eqb _ _ c.if-number-eq1.false) c.put_sentence.ensures
