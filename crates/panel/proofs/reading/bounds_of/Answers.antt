use mathlib.Core.Path.{refl}
use Rattle.panel.specs.Reading.{bounds_of}
use Rattle.panel.proofs.FloatLaws.{not_nan_bits}
use Rattle.panel.proofs.reading.bounds_of.Goals as goal

pub float_from_bits-result : goal.float_from_bits-result
float_from_bits-result c = not_nan_bits _ c.requires.0

pub float_from_bits-result-2 : goal.float_from_bits-result-2
float_from_bits-result-2 c = not_nan_bits _ c.requires.1

pub returns : goal.returns
unfolding bounds_of
returns c = refl
