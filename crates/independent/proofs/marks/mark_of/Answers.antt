use Rattle.std.proofs.Common.{refl}
use Rattle.independent.specs.Inside.{mark_at}
use Rattle.independent.proofs.marks.mark_of.Goals as goal

pub returns : goal.returns
unfolding mark_at
returns c = rw (c.mark_in.ensures.0, c.byte_at.ensures, c.place_of-at.ensures) refl
