-- The checker's answer, from the list's own compilation.
use Prim.Native.Nat.{ℕ, ◌≤◌, ◌<◌}
use mathlib.Core.Path.{◌≡◌, refl, ◌∙◌}
use mathlib.Core.List.{List, [], ◌∷◌}
use native.Mathlib.Omega.{arith}
use lib.ListN.{length}
use borrow.Author.Tests.{lt-ltb, le-ltb}
use Rattle.lbp16.specs.Answer.{Answer, rule_number}
use Rattle.lbp16.specs.declared.Refusal.{Refusal}
use Rattle.packet.specs.Step.{Step}
use Rattle.cue.specs.Records.{Listed, records, records_of}
use Rattle.cue.specs.Records
use Rattle.cue.specs.Output.{apart}
use Rattle.cue.specs.Compile.{output, compile_listed, needed}
use Rattle.cue.specs.declared.Packed.{Packed}
use Rattle.tight.specs.Tight.{rejected, refused, frames_checked, proposal_checked, checked, check_listed}
use Rattle.std.proofs.Common.{Option, Some, None, Result, Ok, Err, ok_or}
use Rattle.tight.specs.Inside.{count_listed}
use Rattle.tight.specs.declared.Fault.{Fault}

-- A count that is missing is the fault `Rejected`.
pub missing-rejected : (t : Option ℕ) → check_listed (ok_or t Fault.Rejected) ≡ count_listed t
unfolding check_listed count_listed
missing-rejected None = refl
missing-rejected (Some n) = refl

-- a refused list
refused-by : (v : Listed) (n i : ℕ) (proposal : List ℕ) → Answer.refused n i ≡ needed v
    → refused n i ≡ proposal_checked v proposal
unfolding needed proposal_checked
refused-by (Records.refused m j) n i proposal e = cc
refused-by (Records.records xs) n i proposal e = let z : ◌≡◌ {A = ℕ} 0 1 = cc in absurd (omega arith)

-- an accepted list, whose output has so many bytes
record Compiles (v : Listed) (bytes : ℕ) : Type 0 where
  xs : List Step
  same : v ≡ records xs
  size : bytes ≡ length (output xs)

compiles : (v : Listed) (bytes count : ℕ) → Answer.accepted (bytes ∷ count ∷ []) ≡ needed v
    → Compiles v bytes
unfolding needed
compiles (Records.refused m j) bytes count e = let z : ◌≡◌ {A = ℕ} 0 1 = cc in absurd (omega arith)
compiles (Records.records xs) bytes count e = record { xs = xs; same = refl; size = cc }

module _ (list proposal : List ℕ) (a : Result Packed Refusal)
    (e : compile_listed a ≡ needed (records_of list)) where
  pub list-refused : (r : Refusal) → a ≡ Err r → refused (rule_number r.rule) r.place ≡ checked list proposal
  unfolding checked compile_listed
  list-refused r d = refused-by (records_of list) _ _ proposal (rw d at e)

  module _ (p : Packed) (d : a ≡ Ok p) where
    compiled : Compiles (records_of list) p.bytes
    unfolding compile_listed
    compiled = compiles (records_of list) p.bytes p.packets (rw d at e)

    pub too_long : p.bytes < length proposal → rejected ≡ checked list proposal
    unfolding checked proposal_checked
    too_long h =
        let c = compiled in
        rw (c.same, lt-ltb (length (output c.xs)) (length proposal) (rw c.size at h)) refl

    pub gone_through : length proposal ≤ p.bytes → (t : Option ℕ)
        → ((xs : List Step) → records_of list ≡ records xs → count_listed t ≡ frames_checked (apart proposal) xs)
        → count_listed t ≡ checked list proposal
    unfolding checked proposal_checked
    gone_through h t g =
        let c = compiled in
        g c.xs c.same ∙ rw (c.same, le-ltb (length (output c.xs)) (length proposal) (rw c.size at h)) refl
