use Rattle.lbp16.specs.Pointer.{advanced}
use native.Mathlib.Omega.{arith}
use Rattle.lbp16.proofs.pointer.Pointer.advance.Goals as goal

pub returns-then-bytes-at : goal.returns-then-bytes-at
unfolding advanced
returns-then-bytes-at c = omega arith

pub returns-else-bytes-at : goal.returns-else-bytes-at
unfolding advanced
returns-else-bytes-at c = omega arith
