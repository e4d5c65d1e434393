use mathlib.Core.Path.{refl}
use Rattle.cue_text.proofs.WordLaws.{holds-words}
use Rattle.cue_text.proofs.word.words_of.Goals as goal

pub returns : goal.returns
returns c =
    let f = c.word_at-first.ensures in
    let s = c.word_behind-second.ensures _ f.0 in
    let t = c.word_behind-third.ensures _ s.0 in
    let d = c.word_behind-fourth.ensures _ t.0 in
    let e = c.word_behind-fifth.ensures _ d.0 in
    holds-words _ _ _ _ _ _ f.0 s.0 t.0 d.0 e.0 f.1 s.1 t.1 d.1 _
    (rw (c.word_count.ensures.0, c.word_count-2.ensures.0, c.word_count-3.ensures.0)
    (rw (c.word_count-4.ensures.0, c.word_count-5.ensures.0) refl))
