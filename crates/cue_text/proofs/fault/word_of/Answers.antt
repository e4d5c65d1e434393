use mathlib.Core.Path.{◌∙◌}
use Rattle.cue_text.specs.Fault.{fault_word}
use Rattle.cue_text.proofs.FaultLaws.{word_held, fault-few}
use Rattle.cue_text.proofs.fault.word_of.Goals as goal

pub returns : goal.returns
unfolding fault_word
returns c = let f = c.fault_of-f.ensures in
    let a = c.args in
    rw (c.word_numbered.ensures, f) at c.part.ensures
    ∙ word_held _ c.line_place.result c.rest-rest.ensures _ c.words_of-w.ensures _ c.line_place.ensures.1 _
    (fault-few a.number a.line a.text.now)
