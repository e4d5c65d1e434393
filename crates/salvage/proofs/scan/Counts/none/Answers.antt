use mathlib.Core.Path.{refl}
use Rattle.salvage.specs.Salvage.{counted, kept_count, bytes_of_kept, entry_count}
use Rattle.salvage.proofs.scan.Counts.none.Goals as goal

pub returns : goal.returns
unfolding counted kept_count bytes_of_kept entry_count
returns c = refl
