use mathlib.Core.Path.{refl}
use mathlib.Core.Path.{◌∙◌}
use Rattle.cue_text.specs.Text.{form_meaning}
use Rattle.cue_text.proofs.KnownLaws.{place_in_lem}
use Rattle.cue_text.proofs.line.write_at.Goals as goal

pub returns : goal.returns
unfolding form_meaning
returns c text known = c.write_said.ensures text
    ∙ rw (c.place_by-p.ensures, place_in_lem, c.value_of-v.ensures)
    (rw (c.part-3.ensures, c.part-2.ensures, c.part.ensures) refl)
