use Rattle.lbp16.specs.Pointer.{lent_pointers, lent_spaces, pointers_of, spaces_at}
use Rattle.lbp16.proofs.PointerLaws.{lent_back}
use Rattle.packet.proofs.judge.copied.Goals as goal

pub returns : goal.returns
unfolding lent_pointers lent_spaces pointers_of spaces_at
returns c = lent_back _ c.requires
