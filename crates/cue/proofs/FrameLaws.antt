-- What stands at the front of frames, from the tests that the code makes.
use Prim.Native.Nat.{ℕ, ◌+◌, ◌≤◌, ◌<◌}
use mathlib.Core.Path.{◌≡◌, refl, sym, ◌∙◌}
use mathlib.Core.List.{List}
use mathlib.Core.Bool.{Bool, true, false, cond}
use native.Mathlib.Omega.{arith}
use lib.Dec.{eqb, ltb}
use lib.ListN.{length, take, drop, length-drop}
use lib.Seq.{length-take-le}
use borrow.Author.Tests.{ltb-false, le-ltb, lt-ltb, eq-eqb, ne_eqb}
use Rattle.packet.specs.Bytes.{number}
use Rattle.cue.specs.Output.{frame_mark, length_at, Front, front_of, bytes_in_frame}
use Rattle.cue.proofs.OutputLaws.{front-whole}

module _ (rest : List ℕ) where
  pub front-end : length rest ≡ 0 → Front.end ≡ front_of rest
  unfolding front_of
  front-end e = rw (eq-eqb _ _ e) refl

  pub front-short : (length rest ≡ 0 → ⊥) → length rest < 2 → Front.cut ≡ front_of rest
  unfolding front_of
  front-short n h = rw (ne_eqb _ _ n, lt-ltb _ _ h) refl

  module _ (two : 2 ≤ length rest) (mark : ℕ) (e : mark ≡ number (take 2 (drop 0 rest))) where
    pub front-unmarked : (mark ≡ frame_mark → ⊥) → Front.unmarked ≡ front_of rest
    unfolding front_of
    front-unmarked n =
        rw (ne_eqb (length rest) 0 (λ z. omega arith), le-ltb (length rest) 2 two, ne_eqb _ _ (λ z. n (e ∙ z))) refl

    pub front_cut : mark ≡ frame_mark → (n : ℕ) → n ≡ number (take 2 (drop 2 rest)) → length rest < 4 + n → Front.cut ≡ front_of rest
    unfolding front_of length_at
    front_cut q n f h =
        rw (
          ne_eqb (length rest) 0 (λ z. omega arith),
          le-ltb (length rest) 2 two,
          eq-eqb _ _ (sym e ∙ q),
          lt-ltb (length rest) (4 + length_at rest) (rw f at h),
        )
        refl

  pub front-frame : (mark : ℕ) → mark ≡ number (take 2 (drop 0 rest)) → mark ≡ frame_mark → (n : ℕ)
      → n ≡ number (take 2 (drop 2 rest)) → 4 + n ≤ length rest → Front.frame n ≡ front_of rest
  unfolding length_at
  front-frame mark e q n f h = rw f (sym (front-whole rest (sym e ∙ q) (rw f at h)))

-- A whole frame has the length written in it, and stands within the bytes.
pub record Whole (rest : List ℕ) (n : ℕ) : Type 0 where
  pub length-is : length_at rest ≡ n
  pub within : 4 + n ≤ length rest

pub whole-frame : (rest : List ℕ) (n : ℕ) → Front.frame n ≡ front_of rest → Whole rest n
unfolding front_of
whole-frame rest n e =
    go (eqb (length rest) 0) (ltb (length rest) 2) (eqb (number (take 2 rest)) frame_mark) (ltb (length rest) (4 + length_at rest))
    refl
    e
  where
    go : (a b c d : Bool) → ltb (length rest) (4 + length_at rest) ≡ d
        → Front.frame n
        ≡ cond a Front.end (cond b Front.cut (cond c (cond d Front.cut (Front.frame (length_at rest))) Front.unmarked))
        → Whole rest n
    go true b c d q f = let z : ◌≡◌ {A = ℕ} 0 1 = cc in absurd (omega arith)
    go false true c d q f = let z : ◌≡◌ {A = ℕ} 0 1 = cc in absurd (omega arith)
    go false false false d q f = let z : ◌≡◌ {A = ℕ} 0 1 = cc in absurd (omega arith)
    go false false true true q f = let z : ◌≡◌ {A = ℕ} 0 1 = cc in absurd (omega arith)
    go false false true false q f =
        let z : length_at rest ≡ n = cc in
        record { length-is = z; within = rw (← z) (ltb-false _ _ q) }

pub front-within : (rest : List ℕ) (n : ℕ) → Front.frame n ≡ front_of rest → 4 + n ≤ length rest
front-within rest n e = (whole-frame rest n e).within

pub frame-length : (rest : List ℕ) (n : ℕ) → Front.frame n ≡ front_of rest → length (bytes_in_frame n rest) ≡ n
unfolding bytes_in_frame
frame-length rest n e =
    let w = front-within rest n e in
    length-take-le n (drop 4 rest) (rw length-drop (omega arith))
