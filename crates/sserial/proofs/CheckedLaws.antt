-- What the answer of counting the fields says of the table.
use Prim.Native.Nat.{ℕ}
use mathlib.Core.Path.{◌≡◌, refl}
use mathlib.Core.Bool.{Bool, true, false, cond}
use mathlib.Core.List.{List, [], ◌∷◌}
use native.Mathlib.Omega.{arith}
use lib.ListN.{length}
use Rattle.lbp16.specs.Answer.{accepted, refused}
use Rattle.sserial.specs.Table.{Table, unreadable, fields, Checked, laid, checked, overfull, directed}
use Rattle.sserial.specs.Table as table
use Rattle.sserial.specs.Calls.{counted}
use Rattle.sserial.specs.declared.table.Field.{Field}
use Rattle.sserial.specs.declared.table.Direction.TheVariants.{Inputs, Outputs}

-- a table that is not refused, with its fields
pub record Laid (t : Table) : Type 0 where
  pub fs : List Field
  pub here : t ≡ fields fs
  pub fits : overfull fs ≡ false

pub laid-checked : (t : Table) (l : Laid t) → checked t ≡ laid l.fs
unfolding checked
laid-checked t l = rw (l.here, l.fits) refl

-- a refused count is the table's refusal
pub refused-checked : (k : Checked) (n p : ℕ) → refused n p ≡ counted k → (k ≡ table.refused n) × (p ≡ 0)
unfolding counted
refused-checked (table.refused n) m p e = (cc, cc)
refused-checked (laid fs) m p e = let z : ◌≡◌ {A = ℕ} 0 1 = cc in absurd (omega arith)

-- an accepted one has its counts
pub record Counts (t : Table) (i o : ℕ) : Type 0 where
  pub laid : Laid t
  pub inputs : i ≡ length (directed Inputs laid.fs)
  pub outputs : o ≡ length (directed Outputs laid.fs)

pub accepted-checked : (t : Table) (i o : ℕ) → accepted (i ∷ o ∷ []) ≡ counted (checked t) → Counts t i o
unfolding counted checked
accepted-checked unreadable i o e = let z : ◌≡◌ {A = ℕ} 0 1 = cc in absurd (omega arith)
accepted-checked (fields fs) i o e = go (overfull fs) refl e
  where
    go : (b : Bool) → overfull fs ≡ b → accepted (i ∷ o ∷ []) ≡ counted (cond b (table.refused 42) (laid fs)) → Counts (fields fs) i o
    go true d e = let z : ◌≡◌ {A = ℕ} 0 1 = cc in absurd (omega arith)
    go false d e = record { laid = record { fs = fs; here = refl; fits = d }; inputs = cc; outputs = cc }
