use mathlib.Core.Bool.{Bool, true, false}
use mathlib.Core.Path.{◌≡◌, refl, ◌∙◌}
use mir.Val.{bool_byte}
use Rattle.lbp16.specs.Word.{bit}
use Rattle.parts.proofs.state.flag.Goals as goal

same : (b : Bool) → bool_byte b ≡ bit b
unfolding bit bool_byte
same true = refl
same false = refl

pub returns : goal.returns
returns c = c.from.ensures ∙ same _
