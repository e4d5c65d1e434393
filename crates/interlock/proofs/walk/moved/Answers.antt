use Prim.Native.Nat.{ℕ}
use mathlib.Core.Path.{ap, ◌∙◌}
use Rattle.lbp16.specs.Pointer.{advanced}
use Rattle.interlock.proofs.PlaceLaws.{moved_on}
use Rattle.interlock.proofs.walk.moved.Goals as goal

pub returns : goal.returns
returns c = let at = c.advance-pointer.ensures ∙ ap (λ (x : ℕ). advanced x c.bytes_if.result) c.new.ensures in
    moved_on _ _ c.requires _ _ _ c.bytes_if.ensures _ c.is_info.ensures _ at _ c.with.ensures
