use Rattle.std.proofs.Common.{refl}
use Rattle.cue_text.specs.Numbers.{is_name_byte}
use Rattle.cue_text.proofs.known.is_name_byte.Goals as goal

pub returns : goal.returns
unfolding is_name_byte
returns c = rw (c.is_letter.ensures, c.is_ascii_digit.ensures.value) refl
