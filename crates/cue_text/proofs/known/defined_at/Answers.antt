use Rattle.std.proofs.Common.{ap, ◌∙◌}
use Rattle.cue_text.specs.Fault.{number_in}
use Rattle.cue_text.proofs.KnownLaws.{defined-place}
use Rattle.cue_text.proofs.known.defined_at.Goals as goal

pub returns : goal.returns
returns c = defined-place _ _ _ _ _ _
    c.rest-rest.ensures
    c.words_of-w.ensures
    c.part.ensures
    c.part-2.ensures
    (c.unwrap_or.ensures ∙ ap number_in c.space_of.ensures)
    (c.unwrap_or-2.ensures ∙ ap number_in c.address_of.ensures)
