use mathlib.Core.Path.{refl}
use Rattle.cue_text.specs.Inside.{word_from}
use Rattle.cue_text.proofs.word.word_at.Goals as goal

pub returns : goal.returns
unfolding word_from
returns c = let f = c.past_blanks-from.ensures in
    let t = c.past_word-to.ensures in
    (rw (t.0, f.0) refl, t.1)
