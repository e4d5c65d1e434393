use mathlib.Core.Path.{refl}
use Rattle.head.proofs.packet_text_exports.bad_pointers.Goals as goal

pub returns : goal.returns
returns c = rw (c.above_size.ensures, c.from_lent.ensures) refl
