use mathlib.Core.Path.{refl}
use Rattle.lbp16.specs.Pointer.{of_space, over, some_over, above_size}
use Rattle.lbp16.specs.Space.{row, info_row, area_row}
use Rattle.lbp16.proofs.pointer.Pointers.above_size.Goals as goal

pub returns : goal.returns
unfolding of_space over some_over above_size row info_row area_row
returns c = refl
