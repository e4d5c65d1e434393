-- Steps with their unlock writes left out: they are the records that the steps are mixed from.
use Prim.Native.Nat.{ℕ}
use mathlib.Core.Path.{◌≡◌, refl, sym, ap, ◌∙◌}
use mathlib.Core.List.{List, [], ◌∷◌, ◌++◌}
use mathlib.Core.Bool.{Bool, true, false, not, ◌||◌, ◌&&◌, cond}
use native.Mathlib.Omega.{arith}
use lib.Dec.{eqb}
use lib.ListN.{length}
use borrow.Author.Tests.{eqb-true, eq-eqb, not-false}
use Rattle.lbp16.specs.Space.{Space, registers, eeprom, status, information, absent, row}
use Rattle.lbp16.proofs.BoolLaws.{or_false, and_true}
use Rattle.packet.specs.Bytes.{number}
use Rattle.packet.specs.Step.{Kind, read, write, infoRead, Step, is_info, is_write, is_status, carried, names_unlock}
use Rattle.packet.specs.Inside.{status_write}
use Rattle.packet.specs.Rules.{any_step}
use Rattle.cue.specs.Records.{reserved, bad_element}
use Rattle.cue.proofs.RecordLaws.{good-element}
use Rattle.cue.proofs.Relations.{Mixed, Good}
use Rattle.tight.specs.Tight.{info_step, unlocks, without_unlocks}
use Rattle.tight.proofs.AcceptedLaws.{missized}

-- what an unlock write is
record Unlocking (s : Step) : Type 0 where
  kind : s.kind ≡ write
  space : s.space ≡ status
  address : s.address ≡ 0x1A
  value : number s.bytes ≡ 0x5A02

unlocking : (s : Step) → unlocks s ≡ true → Unlocking s
unfolding unlocks names_unlock is_write is_status
unlocking s e =
    let (w, v) = and_true (is_write s.kind && names_unlock s) (eqb (number s.bytes) 0x5A02) e in
    let (k, n) = and_true (is_write s.kind) (names_unlock s) w in
    let (a, t) = and_true (eqb s.address 0x1A) (is_status s.space) n in
    record {
      kind = writes s.kind k;
      space = in_status s.space t;
      address = eqb-true _ _ a;
      value = eqb-true _ _ v;
    }
  where
    writes : (k : Kind) → is_write k ≡ true → k ≡ write
    writes read e = let z : ◌≡◌ {A = ℕ} 0 1 = cc in absurd (omega arith)
    writes write e = refl
    writes infoRead e = let z : ◌≡◌ {A = ℕ} 0 1 = cc in absurd (omega arith)

    in_status : (s : Space) → is_status s ≡ true → s ≡ status
    in_status registers e = let z : ◌≡◌ {A = ℕ} 0 1 = cc in absurd (omega arith)
    in_status eeprom e = let z : ◌≡◌ {A = ℕ} 0 1 = cc in absurd (omega arith)
    in_status status e = refl
    in_status information e = let z : ◌≡◌ {A = ℕ} 0 1 = cc in absurd (omega arith)
    in_status absent e = let z : ◌≡◌ {A = ℕ} 0 1 = cc in absurd (omega arith)

-- an unlock write of a packet has two bytes
unlock-bytes : (s : Step) → Unlocking s → missized s ≡ false → length s.bytes ≡ 2
unfolding missized is_write carried row
unlock-bytes s u h =
    let two : length s.bytes ≡ carried write s.space = eqb-true _ _ (not-false _ (rw u.kind at h)) in
    two ∙ rw u.space

-- The steps of packets are mixed from those that are left without the unlock writes.
pub mixed_without : (ss : List Step) → any_step missized ss ≡ false → Mixed ss (without_unlocks ss)
unfolding any_step without_unlocks
mixed_without [] h = Mixed.none
mixed_without (s ∷ ss) h =
    let (sized, rest) = or_false (missized s) (any_step missized ss) h in
    go (unlocks s) refl sized (mixed_without ss rest)
  where
    go : (b : Bool) → unlocks s ≡ b → missized s ≡ false → Mixed ss (without_unlocks ss)
        → Mixed (s ∷ ss) (cond b (without_unlocks ss) (s ∷ without_unlocks ss))
    go true e sized m =
        let u = unlocking s e in
        let same : status_write 0x1A s.bytes ≡ s =
        λ i. record { kind = sym u.kind i; space = sym u.space i; address = sym u.address i; bytes = s.bytes } in
        let put = Mixed.unlock (unlock-bytes s u sized) u.value m in
        rw same at put
    go false e sized m = Mixed.same m

pub without_append : (ss ts : List Step) → without_unlocks (ss ++ ts) ≡ without_unlocks ss ++ without_unlocks ts
unfolding without_unlocks
without_append [] ts = refl
without_append (s ∷ ss) ts = go (unlocks s) (without_append ss ts)
  where
    go : (b : Bool) → without_unlocks (ss ++ ts) ≡ without_unlocks ss ++ without_unlocks ts
        → cond b (without_unlocks (ss ++ ts)) (s ∷ without_unlocks (ss ++ ts))
        ≡ cond b (without_unlocks ss) (s ∷ without_unlocks ss) ++ without_unlocks ts
    go true e = e
    go false e = ap (λ r. s ∷ r) e

-- A good record does not name the unlock cell, so it writes nothing there.
not_there : (x : Step) → bad_element x ≡ false → (v : Bool) → (is_write x.kind && names_unlock x && v) ≡ false
unfolding names_unlock reserved
not_there x b v = go (is_write x.kind) (eqb x.address 0x1A) _ (is_status x.space) (good-element x b).4
  where
    go : (w a c s : Bool) → ((a || c) && s) ≡ false → (w && (a && s) && v) ≡ false
    go true true c s e = rw e
    go true false c s e = refl
    go false a c s e = refl

-- Records mixed with unlock writes are left when these are left out.
pub without_mixed : {ss xs : List Step} → Mixed ss xs → Good xs → without_unlocks ss ≡ xs
unfolding without_unlocks unlocks names_unlock is_write is_status
without_mixed Mixed.none Good.none = refl
without_mixed (Mixed.same {x = x} m) (Good.more b p w g) = rw (not_there x b, without_mixed m g)
without_mixed (Mixed.unlock w v m) g = rw (eq-eqb _ _ v) (without_mixed m g)

-- What neither an unlock write nor a good record does, no step does that is left out or a record.
none-does : (f : Step → Bool) → ((s : Step) → Unlocking s → f s ≡ false)
    → ((x : Step) → bad_element x ≡ false → is_info x.kind ≡ false → f x ≡ false) → (ss : List Step)
    → Good (without_unlocks ss) → any_step f ss ≡ false
unfolding any_step without_unlocks
none-does f un re [] g = refl
none-does f un re (s ∷ ss) g = go (unlocks s) refl g (none-does f un re ss)
  where
    go : (b : Bool) → unlocks s ≡ b → Good (cond b (without_unlocks ss) (s ∷ without_unlocks ss))
        → (Good (without_unlocks ss) → any_step f ss ≡ false) → (f s || any_step f ss) ≡ false
    go true e g more = rw (un s (unlocking s e)) (more g)
    go false e (Good.more b p w g) more = rw (re s b p) (more g)

-- a write to the unlock cell of another value than 0x5A02
unfoldable pub other_unlock : Step → Bool
other_unlock s = is_write s.kind && names_unlock s && not (eqb (number s.bytes) 0x5A02)

-- Where good records are left there was no info read, and no other write to the unlock cell.
pub without_info : (ss : List Step) → Good (without_unlocks ss) → any_step info_step ss ≡ false
unfolding info_step is_info
without_info = none-does info_step (λ s u. rw u.kind refl) (λ x b p. p)

pub without_other : (ss : List Step) → Good (without_unlocks ss) → any_step other_unlock ss ≡ false
unfolding other_unlock
without_other =
    none-does other_unlock (λ s u. last (is_write s.kind && names_unlock s) _ (eq-eqb _ _ u.value))
    (λ x b p. not_there x b _)
  where
    last : (a v : Bool) → v ≡ true → (a && not v) ≡ false
    last true v e = rw e
    last false v e = refl
