-- The fields of one direction one after the other: `fs` are those still to come, `fs₀` all of them.
use Prim.Native.Nat.{ℕ, suc, ◌+◌, ◌*◌, ◌/◌, ◌%◌, ◌^◌, ◌≤◌, ◌<◌}
use mathlib.Core.Path.{◌≡◌, refl, sym, ap, ap₂, ◌∙◌}
use mathlib.Core.Bool.{true, false}
use mathlib.Core.List.{List, [], ◌∷◌, ◌++◌, append-nil, append_assoc}
use native.Mathlib.Omega.{arith}
use native.Mathlib.Nat.{mul_comm, mul_assoc, mul-add, mul-zero}
use native.Mathlib.Numerals.{add-one}
use lib.ListN.{length, get_or, take, drop, set, length-set}
use lib.Seq.{drop-cons, drop-length, take-suc-set, take_all}
use lib.Pow.{pow-add, shr-shr}
use Rattle.sserial.specs.Table.{bits}
use Rattle.sserial.specs.Layout.{joined, words_of, value_of, bits_of, in_range, packed, unpacked, fitting}
use Rattle.sserial.specs.Inside.{Each, Wide, AllWide}
use Rattle.sserial.specs.declared.table.Field.{Field}
use Rattle.sserial.proofs.LayoutLaws.{bits_below, below_both, words-joined}
use Rattle.lbp16.proofs.ListLaws.{none_left}

pub head-wide : {f : Field} {fs : List Field} → AllWide (f ∷ fs) → Wide f
head-wide (AllWide.more w ws) = w

tail-wide : {f : Field} {fs : List Field} → AllWide (f ∷ fs) → AllWide fs
tail-wide (AllWide.more w ws) = ws

-- what the next field takes of the room for bits
next_fits : (low : ℕ) {f : Field} {fs gs : List Field} → gs ≡ f ∷ fs → low + bits gs ≤ 96 → low + f.width + bits fs ≤ 96
unfolding bits
next_fits low e h = let d = rw e at h in omega arith

-- packing: j values are laid into the words below bit `low`
pub record Packing (fs₀ : List Field) (vs : List ℕ) (fs : List Field) (words : List ℕ) (low j : ℕ) : Type 0 where
  pub count : j + length fs ≡ length vs
  pub wide : AllWide fs
  pub end : low + bits fs ≤ 96
  pub free : joined words < 2 ^ low
  pub each : Each (2 ^ 32) words
  pub three : length words ≡ 3
  pub sum : joined words + 2 ^ low * packed fs (drop j vs) ≡ packed fs₀ vs
  pub fits : fitting fs (drop j vs) ≡ fitting fs₀ vs

pub packing_first : (fs : List Field) (vs : List ℕ) → length fs ≡ length vs → AllWide fs → bits fs ≤ 96
    → Packing fs vs fs (0 ∷ 0 ∷ 0 ∷ []) 0 0
unfolding joined
packing_first fs vs n w b =
    let z : 0 < 2 ^ 32 = omega arith in
    record {
      count = omega arith;
      wide = w;
      end = omega arith;
      free = omega arith;
      each = Each.more z (Each.more z (Each.more z Each.none));
      three = refl;
      sum = omega arith;
      fits = refl;
    }

module _ {fs₀ fs : List Field} {vs words : List ℕ} {low j : ℕ} (h : Packing fs₀ vs fs words low j) where
  pub packing_some : j < length vs → fs ≡ [] → ⊥
  packing_some l e = let c = h.count in let z : length fs ≡ 0 = rw e refl in omega arith

  module _ (f : Field) (gs : List Field) (e : fs ≡ f ∷ gs) where
    pub packing_wide : Wide f
    packing_wide = head-wide (rw e at h.wide)

    pub packing_room : low + f.width ≤ 96
    packing_room = let d = next_fits low e h.end in omega arith

    pub packing_more : j < length vs → (b : ℕ) (more : List ℕ) → b ≡ bits_of f (get_or vs j 0) → in_range f (get_or vs j 0) ≡ true
        → joined more ≡ joined words + b * 2 ^ low → Each (2 ^ 32) more → length more ≡ 3
        → Packing fs₀ vs gs more (low + f.width) (j + 1)
    unfolding packed fitting
    packing_more l b more q r s i n =
        let d : drop j vs ≡ get_or vs j 0 ∷ drop (suc j) vs = drop-cons vs j 0 l in
        let c = h.count in
        let k : length fs ≡ suc (length gs) = rw e refl in
        let p : joined words + 2 ^ low * (b + 2 ^ f.width * packed gs (drop (suc j) vs)) ≡ packed fs₀ vs = rw q (rw (e, d) at h.sum) in
        let m : 2 ^ low * (b + 2 ^ f.width * packed gs (drop (suc j) vs)) ≡ b * 2 ^ low + 2 ^ (low + f.width) * packed gs (drop (suc j) vs) =
        spread b (packed gs (drop (suc j) vs)) in
        record {
          count = omega arith;
          wide = tail-wide (rw e at h.wide);
          end = next_fits low e h.end;
          free = rw (s, mul_comm b (2 ^ low)) (below_both low f.width (joined words) b h.free (rw q (bits_below f (get_or vs j 0))));
          each = i;
          three = n;
          sum = rw (add-one j, s) (omega arith);
          fits = rw (add-one j) (rw (e, d, r) at h.fits);
        }
      where
        spread : (b p : ℕ) → 2 ^ low * (b + 2 ^ f.width * p) ≡ b * 2 ^ low + 2 ^ (low + f.width) * p
        spread b p =
            mul-add (2 ^ low) b (2 ^ f.width * p)
            ∙ ap₂
            (λ (x y : ℕ). x + y)
            (mul_comm (2 ^ low) b)
            (sym (mul_assoc (2 ^ low) (2 ^ f.width) p) ∙ ap (λ (x : ℕ). x * p) (sym (pow-add 2 low f.width)))

    pub packing_bad : j < length vs → in_range f (get_or vs j 0) ≡ false → fitting fs₀ vs ≡ false
    unfolding fitting
    packing_bad l r =
        let d : drop j vs ≡ get_or vs j 0 ∷ drop (suc j) vs = drop-cons vs j 0 l in
        sym (rw (e, d, r) at h.fits)

  pub packing_done : length vs ≤ j → (fitting fs₀ vs ≡ true) × (words ≡ words_of 3 (packed fs₀ vs))
  unfolding packed fitting
  packing_done l =
      let c = h.count in
      let e : fs ≡ [] = none_left fs (omega arith) in
      let k : j ≡ length vs = omega arith in
      let d : drop j vs ≡ [] = rw k (drop-length vs) in
      let s : joined words + 2 ^ low * 0 ≡ packed fs₀ vs = rw e at h.sum in
      let p : joined words ≡ packed fs₀ vs = let z = mul-zero (2 ^ low) in omega arith in
      (sym (rw (e, d) at h.fits), sym (rw (h.three, p) at (words-joined words h.each)))

-- unpacking: j values of the number n are read, from the bits below `low`
pub record Reading (fs₀ : List Field) (n : ℕ) (fs : List Field) (values : List ℕ) (low j : ℕ) : Type 0 where
  pub count : j + length fs ≡ length values
  pub wide : AllWide fs
  pub end : low + bits fs ≤ 96
  pub same : take j values ++ unpacked fs (n / 2 ^ low) ≡ unpacked fs₀ n

pub reading-first : (fs : List Field) (n : ℕ) (values : List ℕ) → length fs ≡ length values → AllWide fs → bits fs ≤ 96
    → Reading fs n fs values 0 0
reading-first fs n values l w b =
    let z : n / 2 ^ 0 ≡ n = omega arith in
    record { count = omega arith; wide = w; end = omega arith; same = rw z refl }

module _ {fs₀ fs : List Field} {n : ℕ} {values : List ℕ} {low j : ℕ} (h : Reading fs₀ n fs values low j) where
  pub reading-some : j < length values → fs ≡ [] → ⊥
  reading-some l e = let c = h.count in let z : length fs ≡ 0 = rw e refl in omega arith

  module _ (f : Field) (gs : List Field) (e : fs ≡ f ∷ gs) where
    pub reading-wide : Wide f
    reading-wide = head-wide (rw e at h.wide)

    pub reading-room : low + f.width ≤ 96
    reading-room = let d = next_fits low e h.end in omega arith

    pub reading-more : j < length values → (b v : ℕ) → b ≡ n / 2 ^ low % 2 ^ f.width → v ≡ value_of f b
        → Reading fs₀ n gs (set values j v) (low + f.width) (j + 1)
    unfolding unpacked bits_of
    reading-more l b v q r =
        let c = h.count in
        let k : length fs ≡ suc (length gs) = rw e refl in
        let m = length-set values j v in
        record {
          count = omega arith;
          wide = tail-wide (rw e at h.wide);
          end = next_fits low e h.end;
          same = rw (add-one j, take-suc-set values j v l, append_assoc, r, q, ← shr-shr n low f.width) (rw e at h.same);
        }

  pub reading-done : length values ≤ j → values ≡ unpacked fs₀ n
  unfolding unpacked
  reading-done l =
      let c = h.count in
      let e : fs ≡ [] = none_left fs (omega arith) in
      let t : take j values ≡ values = take_all j values l in
      sym (append-nil values) ∙ (rw (e, t) at h.same)
