use mathlib.Core.Path.{refl}
use Rattle.packet.specs.Bytes.{bytes_of}
use Rattle.cue_text.specs.Inside.{ten_bytes}
use Rattle.cue_text.proofs.line.bytes_of.Goals as goal

pub returns : goal.returns
unfolding ten_bytes bytes_of
returns c = rw c.mark_of-mark.ensures refl
