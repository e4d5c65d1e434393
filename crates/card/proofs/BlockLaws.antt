-- The loop over a command's elements, and what it does as steps.
use Prim.Native.Nat.{ℕ, zero, suc, ◌+◌, ◌-◌, ◌≤◌, ◌<◌}
use mathlib.Core.Path.{◌≡◌, refl, sym, ap, ◌∙◌}
use mathlib.Core.List.{List}
use native.Mathlib.Omega.{arith}
use native.Mathlib.Numerals.{sub-one}
use lib.ListN.{length, take, drop}
use lib.Seq.{sets, length-sets}
use Rattle.card.specs.Inside.{Within, moved}

-- Where the loop stands with n elements left.
pub record Moving (count w : ℕ) (src : List ℕ) (from fs : ℕ) (dst₀ : List ℕ) (to ts : ℕ) (dst : List ℕ) (n i j : ℕ) : Type 0 where
  pub fs_le : fs ≤ 4
  pub ts_le : ts ≤ 4
  pub inside : Within n i fs w (length src)
  pub room : Within n j ts w (length dst)
  pub same : moved count w src from fs dst₀ to ts ≡ moved n w src i fs dst j ts
  pub kept : length dst ≡ length dst₀

module _ {count w : ℕ} {src : List ℕ} {from fs : ℕ} {dst₀ : List ℕ} {to ts : ℕ} where
  pub moving_now : {dst : List ℕ} (n : ℕ) {i j : ℕ} → Moving count w src from fs dst₀ to ts dst n i j → 0 < n
      → (i + w ≤ length src) × (j + w ≤ length dst)
  moving_now zero m h = absurd (omega arith)
  moving_now (suc n) m h = (m.inside.0, m.room.0)

  pub moving_next : {dst : List ℕ} (n : ℕ) {i j : ℕ} → Moving count w src from fs dst₀ to ts dst n i j → 0 < n
      → (dst' : List ℕ) → dst' ≡ sets dst j (take w (drop i src))
      → Moving count w src from fs dst₀ to ts dst' (n - 1) (i + fs) (j + ts)
  unfolding moved
  moving_next zero m h dst' e = absurd (omega arith)
  moving_next {dst} (suc n) {i} {j} m h dst' e =
      let l : length dst' ≡ length dst = ap length e ∙ length-sets dst j (take w (drop i src)) in
      rw sub-one
      (record {
        fs_le = m.fs_le;
        ts_le = m.ts_le;
        inside = m.inside.1;
        room = rw l m.room.1;
        same = m.same ∙ rw e refl;
        kept = l ∙ m.kept;
      })

  pub moving_end : {dst : List ℕ} (n : ℕ) {i j : ℕ} → Moving count w src from fs dst₀ to ts dst n i j → n ≡ 0
      → dst ≡ moved count w src from fs dst₀ to ts
  unfolding moved
  moving_end zero m e = sym m.same
  moving_end (suc n) m e = absurd (omega arith)
