use mathlib.Core.Path.{refl}
use Rattle.cue_text.specs.Numbers.{is_name}
use Rattle.cue_text.proofs.known.is_name.Goals as goal

pub returns : goal.returns
unfolding is_name
returns c = rw (c.starts_with_letter.ensures, c.all_name_bytes.ensures, c.is_keyword.ensures) refl
