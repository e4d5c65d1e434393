use mathlib.Core.Path.{refl}
use Rattle.cue_text.proofs.KnownLaws.{known_is, names-length}
use Rattle.cue_text.proofs.known.bad_name.Goals as goal

pub returns : goal.returns
returns c = rw (c.is_name.ensures, c.is_some.ensures, c.place_of.ensures, known_is, names-length) refl
