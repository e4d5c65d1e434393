-- Laws of the bytes around a place.
use Prim.Native.Nat.{ℕ, zero, suc, ◌+◌, ◌-◌, min, ◌≤◌}
use mathlib.Core.Path.{◌≡◌, refl, sym, ◌∙◌}
use mathlib.Core.List.{List, [], ◌∷◌}
use native.Mathlib.Omega.{arith}
use native.Mathlib.Nat.{zero-add}
use native.Mathlib.Decide.{dec_le}
use lib.ListN.{length, take, drop, length-append, length-take, length-drop, drop_of_length-le}
use lib.Seq.{take_all, length-take-le, take-nil, drop-nil}
use Rattle.text.specs.Number.{ascii}
use Rattle.text.proofs.HexLaws.{bytes-length}
use Rattle.showcheck_output.specs.Findings.{hex_line, around}

pub most : (bytes : List ℕ) (n end : ℕ) → end ≡ min n (length bytes) → take n bytes ≡ take end bytes
most bytes n end e = go (dec_le n (length bytes))
  where
    go : Dec (n ≤ length bytes) → take n bytes ≡ take end bytes
    go (yes h) = let q : end ≡ n = omega arith in rw q refl
    go (no h) =
        let l : length bytes ≤ n = omega arith in
        let m : length bytes ≤ end = omega arith in
        take_all n bytes l ∙ sym (take_all end bytes m)

drop-take : (n m : ℕ) (xs : List ℕ) → drop n (take (n + m) xs) ≡ take m (drop n xs)
drop-take zero m xs = rw zero-add refl
drop-take (suc n) m [] = simp (take-nil, drop-nil) refl
drop-take (suc n) m (x ∷ xs) = let e : suc n + m ≡ suc (n + m) = omega arith in rw e (drop-take n m xs)

pub inside : (bytes : List ℕ) (end from n : ℕ) → end ≤ length bytes → from ≡ min n end
    → take (end - from) (drop from bytes) ≡ drop n (take end bytes)
inside bytes end from n h f = go (dec_le n end)
  where
    whole : drop from (take end bytes) ≡ take (end - from) (drop from bytes)
    whole =
        let e : from + (end - from) ≡ end = omega arith in
        rw e at (drop-take from (end - from) bytes)

    go : Dec (n ≤ end) → take (end - from) (drop from bytes) ≡ drop n (take end bytes)
    go (yes k) = let q : n ≡ from = omega arith in rw q (sym whole)
    go (no k) =
        let l : length (take end bytes) ≡ end = length-take-le end bytes h in
        let a : length (take end bytes) ≤ from = omega arith in
        let b : length (take end bytes) ≤ n = omega arith in
        sym whole ∙ drop_of_length-le (take end bytes) a ∙ sym (drop_of_length-le (take end bytes) b)

-- the bytes around a place, as an end and a start within the bytes
module _ (bytes : List ℕ) (k : ℕ) {end from : ℕ} (e : end ≡ min (k + 5) (length bytes))
    (f : from ≡ min (k - 4) end) where
  pub window_is : take (end - from) (drop from bytes) ≡ around k bytes
  unfolding around
  window_is =
      let t : take (k + 5) bytes ≡ take end bytes = most bytes (k + 5) end e in
      rw t (inside bytes end from (k - 4) (omega (arith, e)) f)

around-few : (k : ℕ) (bytes : List ℕ) → length (around k bytes) ≤ 9
unfolding around
around-few k bytes = simp (length-drop, length-take) (omega arith)

-- at most nine bytes stand in the line of those around a place
pub line-length : (label : List ℕ) (k : ℕ) (bytes : List ℕ) → length (hex_line label (around k bytes)) ≤ length label + 28
unfolding hex_line ascii
line-length label k bytes =
    let few = around-few k bytes in
    let l = bytes-length (around k bytes) in
    simp length-append (omega arith)
