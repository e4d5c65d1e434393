-- Steps that the test finds the same are equal.
use Prim.Native.Nat.{ℕ}
use mathlib.Core.Path.{◌≡◌, refl, sym, ap, ◌∙◌}
use mathlib.Core.List.{List, [], ◌∷◌}
use mathlib.Core.Bool.{true, ◌&&◌}
use native.Mathlib.Omega.{arith}
use lib.Dec.{eqb}
use borrow.Author.Tests.{eqb-true, eq-eqb}
use Rattle.text.specs.Find.{same_bytes}
use Rattle.text.proofs.FindLaws.{same_self, same-is}
use Rattle.lbp16.specs.Space.{space_of, space_number}
use Rattle.lbp16.proofs.BoolLaws.{and_true}
use Rattle.packet.specs.Step.{Kind, read, write, infoRead, Step, is_info, is_write}
use Rattle.cue.proofs.PackingLaws.{space-again}
use Rattle.tight.specs.Tight.{same_kind, same_step, same_steps}

same_kind_lem : (k l : Kind) → same_kind k l ≡ true → k ≡ l
unfolding same_kind is_write is_info
same_kind_lem read read e = refl
same_kind_lem read write e = let z : ◌≡◌ {A = ℕ} 0 1 = cc in absurd (omega arith)
same_kind_lem read infoRead e = let z : ◌≡◌ {A = ℕ} 0 1 = cc in absurd (omega arith)
same_kind_lem write read e = let z : ◌≡◌ {A = ℕ} 0 1 = cc in absurd (omega arith)
same_kind_lem write write e = refl
same_kind_lem write infoRead e = let z : ◌≡◌ {A = ℕ} 0 1 = cc in absurd (omega arith)
same_kind_lem infoRead read e = let z : ◌≡◌ {A = ℕ} 0 1 = cc in absurd (omega arith)
same_kind_lem infoRead write e = let z : ◌≡◌ {A = ℕ} 0 1 = cc in absurd (omega arith)
same_kind_lem infoRead infoRead e = refl

kind-itself : (k : Kind) → same_kind k k ≡ true
unfolding same_kind is_write is_info
kind-itself read = refl
kind-itself write = refl
kind-itself infoRead = refl

same_step_lem : (s x : Step) → same_step s x ≡ true → s ≡ x
unfolding same_step
same_step_lem s x e =
    let k = same_kind s.kind x.kind in
    let n = eqb (space_number s.space) (space_number x.space) in
    let a = eqb s.address x.address in
    let (kna, b) = and_true (k && n && a) (same_bytes s.bytes x.bytes) e in
    let (kn, a) = and_true (k && n) a kna in
    let (k, n) = and_true k n kn in
    let number : space_number s.space ≡ space_number x.space = eqb-true _ _ n in
    let kind = same_kind_lem _ _ k in
    let space = sym (space-again s.space) ∙ ap space_of number ∙ space-again x.space in
    let address : s.address ≡ x.address = eqb-true _ _ a in
    let bytes = same-is _ _ b in
    λ i. record { kind = kind i; space = space i; address = address i; bytes = bytes i }

step-itself : (s : Step) → same_step s s ≡ true
unfolding same_step
step-itself s =
    rw (kind-itself s.kind, eq-eqb (space_number s.space) _ refl, eq-eqb s.address _ refl)
    (same_self s.bytes)

-- Lists of steps that the test finds the same are equal, and the test finds equal lists the same.
pub same-steps : (ss xs : List Step) → same_steps ss xs ≡ true → ss ≡ xs
unfolding same_steps
same-steps [] [] e = refl
same-steps [] (x ∷ xs) e = let z : ◌≡◌ {A = ℕ} 0 1 = cc in absurd (omega arith)
same-steps (s ∷ ss) [] e = let z : ◌≡◌ {A = ℕ} 0 1 = cc in absurd (omega arith)
same-steps (s ∷ ss) (x ∷ xs) e =
    let (a, b) = and_true (same_step s x) (same_steps ss xs) e in rw (same_step_lem s x a, same-steps ss xs b)

pub steps-itself : (ss : List Step) → same_steps ss ss ≡ true
unfolding same_steps
steps-itself [] = refl
steps-itself (s ∷ ss) = rw (step-itself s) (steps-itself ss)
