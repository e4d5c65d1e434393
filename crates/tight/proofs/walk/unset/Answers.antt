use mathlib.Core.Path.{◌≡◌}
use Rattle.lbp16.specs.Pointer.{pointer}
use Rattle.tight.specs.Inside.{unset_address, unset, unset_spaces}
use Rattle.tight.proofs.walk.unset.Goals as goal

pub returns : goal.returns
unfolding unset unset_spaces
returns c = let e : c.new-p.result ≡ pointer unset_address = (λ i. record { at = c.new-p.ensures i }) in rw e
