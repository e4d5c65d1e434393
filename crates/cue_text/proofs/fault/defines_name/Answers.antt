use Prim.Native.Nat.{ℕ}
use mathlib.Core.Path.{◌≡◌, refl, ◌∙◌}
use mathlib.Core.List.{List}
use mathlib.Core.Bool.{false}
use Rattle.cue_text.specs.Inside.{formed}
use Rattle.cue_text.specs.Fault.{defines_name}
use Rattle.cue_text.specs.declared.line.Shape.{Shape}
use Rattle.cue_text.proofs.FaultLaws.{defines_as}
use Rattle.cue_text.proofs.fault.defines_name.Goals as goal

-- a line of another form defines no name

defines-none : (s : Shape) (name b c d : List ℕ) → (s ≡ Shape.Names → ⊥) → false ≡ defines_name name (formed s b c d)
unfolding defines_name formed
defines-none Shape.Empty name b c d h = refl
defines-none Shape.ReadAt name b c d h = refl
defines-none Shape.ReadName name b c d h = refl
defines-none Shape.WriteAt name b c d h = refl
defines-none Shape.WriteName name b c d h = refl
defines-none Shape.Names name b c d h = absurd (h refl)
defines-none Shape.Unknown name b c d h = refl

pub returns-in_default : goal.returns-in_default
returns-in_default c = defines-none c.shape_of-shape.result _ _ _ _ c.in_default.not-Names
    ∙ defines_as _ _ c.rest-rest.ensures _ c.words_of-w.ensures c.part.ensures c.shape_of-shape.ensures _ _ refl

pub returns : goal.returns
unfolding defines_name formed
returns c = rw c.part-2.ensures at c.same.ensures
    ∙ defines_as _ _ c.rest-rest.ensures _ c.words_of-w.ensures c.part.ensures c.shape_of-shape.ensures _ Shape.Names
    c.in-Names.is
