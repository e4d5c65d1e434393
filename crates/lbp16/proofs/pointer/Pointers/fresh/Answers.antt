use Rattle.lbp16.specs.Pointer.{fresh}
use Rattle.lbp16.proofs.pointer.Pointers.fresh.Goals as goal

pub returns : goal.returns
unfolding fresh
returns c = λ i. record { plain = c.fresh.ensures i; info = c.fresh-2.ensures i }
