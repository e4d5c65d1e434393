use Rattle.std.proofs.Common.{refl}
use Rattle.cue_text.specs.Inside.{ends_line, ends_word, in_word}
use Rattle.cue_text.proofs.word.in_word.Goals as goal

pub returns : goal.returns
unfolding ends_line ends_word in_word
returns c = rw c.is_blank.ensures refl
