use Rattle.cue.proofs.WriteLaws.{word-is}
use mathlib.Core.Path.{ap, ◌∙◌}
use Rattle.cue.proofs.emit.word_of.Goals as goal

pub returns : goal.returns
returns c =
    c.unwrap_or.ensures
    ∙ word-is _ _ _
    c.requires.0
    c.requires.1
    (ap (λ r. r.size) c.row_of.ensures)
    c.word_of.ensures
