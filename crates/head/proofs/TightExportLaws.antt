-- Laws of head_tight_check.
use Prim.Native.Nat.{ℕ}
use mathlib.Core.Path.{◌≡◌, refl, sym, ap, ◌∙◌}
use mathlib.Core.List.{List}
use mathlib.Core.Bool.{Bool, true, false, cond}
use native.Mathlib.Omega.{arith}
use lib.ListN.{length}
use lib.Dec.{ltb}
use Rattle.packet.specs.Step.{Step}
use Rattle.cue.specs.Records.{Listed, records_of}
use Rattle.cue.specs.Records
use Rattle.cue.specs.Output.{Apart, unsound, frames, apart}
use Rattle.cue.specs.Compile.{output}
use Rattle.cue.proofs.RecordLaws.{refused_record}
use Rattle.tight.specs.Tight.{Doing, none, steps, packets_do, without_unlocks, same_steps, Checked, accepted, rejected, refused}
use Rattle.tight.specs.Tight.{steps_checked, frames_checked, proposal_checked, checked, check_listed}
use Rattle.std.specs.Prelude.{Result}
use Rattle.tight.specs.declared.Fault.{Fault}
use Rattle.head.specs.Exports.{given}
use Rattle.head.specs.TightExports.{tight_given, export_tight_check}

-- A refusal is the list's own.
pub own-refusal : (list proposal : List ℕ) (n i : ℕ) → checked list proposal ≡ refused n i → records_of list ≡ Records.refused n i
unfolding checked proposal_checked frames_checked steps_checked
own-refusal list proposal n i = go (records_of list)
  where
    never : (c : Bool) (count : ℕ) → cond c (accepted count) rejected ≡ refused n i → ⊥
    never true count e = let z : ◌≡◌ {A = ℕ} 0 1 = cc in omega arith
    never false count e = let z : ◌≡◌ {A = ℕ} 0 1 = cc in omega arith

    same : (d : Doing) (xs : List Step) (count : ℕ) → steps_checked d xs count ≡ refused n i → ⊥
    same none xs count e = let z : ◌≡◌ {A = ℕ} 0 1 = cc in omega arith
    same (steps ss) xs count e = never (same_steps (without_unlocks ss) xs) count e

    taken : (a : Apart) (xs : List Step) → frames_checked a xs ≡ refused n i → ⊥
    taken unsound xs e = let z : ◌≡◌ {A = ℕ} 0 1 = cc in omega arith
    taken (frames ps) xs e = same (packets_do ps) xs (length ps) e

    short : (long : Bool) (xs : List Step) → cond long rejected (frames_checked (apart proposal) xs) ≡ refused n i → ⊥
    short true xs e = let z : ◌≡◌ {A = ℕ} 0 1 = cc in omega arith
    short false xs e = taken (apart proposal) xs e

    go : (v : Listed) → proposal_checked v proposal ≡ refused n i → v ≡ Records.refused n i
    go (Records.refused m j) e = cc
    go (Records.records xs) e = absurd (short (ltb (length (output xs)) (length proposal)) xs e)

-- what the code returns and leaves, and its promise
module _ (list output : List ℕ) (a : Result ℕ Fault) (e : check_listed a ≡ checked list output) (number value : ℕ)
    (g : given number value ≡ tight_given (check_listed a)) where
  pub tight_given_lem : given number value ≡ export_tight_check list output
  unfolding export_tight_check
  tight_given_lem = g ∙ ap tight_given e

  -- no refusal has the number 0
  pub tight_promise : (P : ℕ → Type 0) → ((count : ℕ) → check_listed a ≡ accepted count → P count) → number ≡ 0 → P value
  unfolding tight_given
  tight_promise P f z = go (check_listed a) refl (ap (λ x. x.number) g) (ap (λ x. x.value) g)
    where
      go : (c : Checked) → check_listed a ≡ c → number ≡ (tight_given c).number → value ≡ (tight_given c).value → P value
      go (accepted count) q n v = rw v (f count q)
      go rejected q n v = absurd (omega arith)
      go (refused m i) q n v = absurd (omega (arith, (refused_record list m i (own-refusal list output m i (sym e ∙ q))).in_table))
