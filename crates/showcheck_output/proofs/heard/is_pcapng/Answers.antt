use mathlib.Core.Path.{refl}
use Rattle.showcheck_output.specs.Input.{is_pcapng}
use Rattle.showcheck_output.proofs.heard.is_pcapng.Goals as goal

pub returns : goal.returns
unfolding is_pcapng
returns c = refl
