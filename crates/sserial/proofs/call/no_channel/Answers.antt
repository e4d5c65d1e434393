use mathlib.Core.Path.{refl}
use Rattle.sserial.specs.Calls.{no_channel}
use Rattle.sserial.proofs.call.no_channel.Goals as goal

pub returns : goal.returns
unfolding no_channel
returns c = refl
