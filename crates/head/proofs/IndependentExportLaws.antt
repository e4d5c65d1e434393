-- Laws of head_independent.
use Prim.Native.Nat.{ℕ}
use mathlib.Core.Path.{◌≡◌, sym, ap, ◌∙◌}
use mathlib.Core.List.{List}
use Rattle.independent.specs.Independent.{Compared, independence}
use Rattle.independent.specs.EitherOrder.{EitherOrder}
use Rattle.head.specs.IndependentExports.{two_lists_left}

-- what the code returns and leaves, and its promise
pub independent-left : (first second : List ℕ) (a : Compared) → a ≡ independence first second
    → (a.number ≡ 0 → EitherOrder first second) → (number list place : ℕ) → two_lists_left number list place ≡ a
    → (two_lists_left number list place ≡ independence first second) × (number ≡ 0 → EitherOrder first second)
independent-left first second a e either number list place g = (g ∙ e, λ z. either (sym (ap (λ c. c.number) g) ∙ z))
