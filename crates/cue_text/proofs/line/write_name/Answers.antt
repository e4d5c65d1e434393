use mathlib.Core.Path.{refl}
use mathlib.Core.Path.{◌∙◌}
use Rattle.cue_text.specs.Text.{form_meaning}
use Rattle.cue_text.proofs.KnownLaws.{place_in_lem}
use Rattle.cue_text.proofs.line.write_name.Goals as goal

pub returns : goal.returns
unfolding form_meaning
returns c = c.write_said.ensures _
    ∙ rw (c.place_of-p.ensures, place_in_lem, c.value_of-v.ensures, c.part-2.ensures, c.part.ensures) refl
