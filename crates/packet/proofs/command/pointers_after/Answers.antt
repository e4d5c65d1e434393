use mathlib.Core.Path.{refl}
use Rattle.packet.proofs.command.pointers_after.Goals as goal

pub returns : goal.returns
returns c = rw (
  c.with.ensures,
  c.is_info.ensures,
  c.advance-pointer.ensures,
  c.new.ensures,
  c.moved_bytes.ensures.0,
)
    refl
