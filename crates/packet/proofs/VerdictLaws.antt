-- A refusal by its rule, as an answer.
use Prim.Native.Nat.{ℕ}
use mathlib.Core.Bool.{Bool, true, false, cond}
use mathlib.Core.Path.{◌≡◌, refl, ap}
use Rattle.lbp16.specs.Answer.{Answer, refusal, rule_number, ruled}
use Rattle.lbp16.specs.declared.Refusal.{Refusal}
use Rattle.lbp16.specs.declared.Rule.{Rule}
use Rattle.packet.specs.Verdict.{verdict_listed}
use Rattle.std.specs.Prelude.{Result, Ok, Err}

-- a refusal made of a rule and a place
pub refused_by : (r : Rule) (place : ℕ) (x : Refusal) → x ≡ record { rule = r; place = place }
    → verdict_listed (Err x) ≡ Answer.refused (rule_number r) place
unfolding verdict_listed
refused_by r place x e = ap refusal e

-- one rule more, before the others
pub ruled-cond : {A : Type 0} (b : Bool) (r : Rule) (later : Result A Rule)
    → ruled (cond b (Err r) later) ≡ cond b (rule_number r) (ruled later)
ruled-cond true r later = refl
ruled-cond false r later = refl

-- what is no refusal has the number 0
pub none_ruled : {A : Type 0} (r : Result A Rule) → ((x : Rule) → r ≡ Err x → ⊥) → ruled r ≡ 0
none_ruled (Ok a) h = refl
none_ruled (Err x) h = absurd (h x refl)
