use Rattle.std.proofs.Common.{arith}
use Rattle.cue_text.specs.Numbers.{up_to, address_of}
use Rattle.cue_text.proofs.NumberLaws.{narrowed, narrow}
use Rattle.cue_text.proofs.number.address_of.Goals as goal

pub returns-in_err-value_of : goal.returns-in_err-value_of
unfolding up_to address_of
returns-in_err-value_of c =
    rw (← narrowed 65535 _ (omega arith) c.value_of.ensures, c.in_err-value_of.was) c.from_residual.ensures

pub returns : goal.returns
unfolding up_to address_of
returns c = rw (← narrowed 65535 _ (omega arith) c.value_of.ensures, c.in_ok-value_of.was) (narrow 65535 _ c.try_from.result c.ok.ensures.value c.try_from.ensures)
