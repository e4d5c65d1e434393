use mathlib.Core.Path.{refl}
use Rattle.sserial.specs.Layout.{is_signed}
use Rattle.sserial.proofs.value.is_signed.Goals as goal

pub returns : goal.returns
unfolding is_signed
returns c = refl
