use Rattle.cue_text.specs.Numbers.{number_of, value_of}
use Rattle.cue_text.proofs.number.value_of.Goals as goal

pub returns-then-is_hex : goal.returns-then-is_hex
unfolding number_of value_of
returns-then-is_hex c = rw (← c.is_hex.ensures, c.if-is_hex.true) (rw c.rest.ensures at c.digits.ensures)

pub returns : goal.returns
unfolding number_of value_of
returns c = rw (← c.is_hex.ensures, c.if-is_hex.false) c.digits-2.ensures
