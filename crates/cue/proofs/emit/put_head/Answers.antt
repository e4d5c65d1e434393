use Rattle.cue.specs.Summary.{headed_at, bytes_of_header}
use mathlib.Core.Path.{refl}
use Rattle.cue.proofs.emit.put_head.Goals as goal

pub returns : goal.returns
unfolding headed_at bytes_of_header
returns c = rw (c.put4.ensures, c.word_of.ensures) refl
