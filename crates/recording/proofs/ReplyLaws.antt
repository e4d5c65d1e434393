-- The first wrong byte of a reply.
use Prim.Native.Nat.{ℕ, zero, suc, ◌+◌, ◌-◌, ◌≤◌, ◌<◌}
use mathlib.Core.Path.{◌≡◌, refl, sym, ap, ◌∙◌}
use mathlib.Core.List.{List, [], ◌∷◌}
use mathlib.Core.Bool.{Bool, true, false, cond}
use native.Mathlib.Omega.{arith}
use native.Mathlib.Nat.{add-sub_cancel_left}
use native.Mathlib.Numerals.{add-one}
use lib.Dec.{eqb}
use lib.ListN.{length, take, drop, get_or, set, drop_of_length-le}
use lib.Seq.{drop-cons}
use borrow.Author.Tests.{eqb-true, eq-eqb, ne_eqb, lt-ltb, le-ltb}
use Rattle.cue.specs.Output.{front_of, bytes_in_frame, frame_listed}
use Rattle.recording.specs.Recording.{first_wrong, found_pair, reply_pair}
use Rattle.cue.specs.declared.frame.Frame.{Frame}
use Rattle.recording.specs.declared.pair.Pair.{Pair}
use Rattle.cue.proofs.FrameLaws.{front-within, frame-length}

-- The search stands at i: no byte before differs.
module _ (xs ys : List ℕ) (i : ℕ) (h : i < length xs) (k : i < length ys) where
  pub wrong_here : (get_or xs i 0 ≡ get_or ys i 0 → ⊥) → first_wrong (drop i xs) (drop i ys) ≡ 0
  unfolding first_wrong
  wrong_here n = rw (drop-cons xs i 0, drop-cons ys i 0, ne_eqb _ _ n) refl

  pub wrong_past : get_or xs i 0 ≡ get_or ys i 0 → first_wrong (drop i xs) (drop i ys) ≡ 1 + first_wrong (drop (i + 1) xs) (drop (i + 1) ys)
  unfolding first_wrong
  wrong_past e = rw (drop-cons xs i 0, drop-cons ys i 0, eq-eqb _ _ e, add-one i) (omega arith)

pub wrong_none : (xs ys : List ℕ) (i : ℕ) → length xs ≤ i → first_wrong (drop i xs) (drop i ys) ≡ 0
unfolding first_wrong
wrong_none xs ys i h = rw (drop_of_length-le xs h) refl

-- As long as the bytes last, none of two lists of one length differs only if they are the same.
pub wrong_none_same : (xs ys : List ℕ) → length ys ≡ length xs → length ys ≤ first_wrong xs ys → ys ≡ xs
unfolding first_wrong
wrong_none_same [] [] l h = refl
wrong_none_same [] (y ∷ ys) l h = absurd (omega arith)
wrong_none_same (x ∷ xs) [] l h = absurd (omega arith)
wrong_none_same (x ∷ xs) (y ∷ ys) l h = go (eqb x y) refl h (λ k. wrong_none_same xs ys (omega arith) k)
  where
    go : (b : Bool) → eqb x y ≡ b → suc (length ys) ≤ cond b (suc (first_wrong xs ys)) 0
        → (length ys ≤ first_wrong xs ys → ys ≡ xs) → y ∷ ys ≡ x ∷ xs
    go true e h again = let q = eqb-true x y e in let r = again (omega arith) in cc
    go false e h again = absurd (omega arith)

pub wrong_self : (xs : List ℕ) → first_wrong xs xs ≡ length xs
unfolding first_wrong
wrong_self [] = refl
wrong_self (x ∷ xs) = rw (eq-eqb x x refl) (ap suc (wrong_self xs))

-- One byte changed is found at its place.
pub wrong_set : (xs : List ℕ) (k b : ℕ) → k < length xs → (get_or xs k 0 ≡ b → ⊥) → first_wrong xs (set xs k b) ≡ k
unfolding first_wrong
wrong_set [] k b h n = absurd (omega arith)
wrong_set (x ∷ xs) zero b h n = rw (ne_eqb x b n) refl
wrong_set (x ∷ xs) (suc k) b h n = rw (eq-eqb x x refl) (ap suc (wrong_set xs k b (omega arith) n))

-- The reply's frame as the code reads it.
module _ (expected behind : List ℕ) (n : ℕ) (frame : Frame) (e : frame_listed frame ≡ front_of behind) where
  pub reply-end : frame ≡ Frame.End → Pair.Cut true ≡ reply_pair (front_of behind) n expected behind
  unfolding reply_pair
  reply-end q = rw (← e, q) refl

  pub reply-cut : frame ≡ Frame.Cut → Pair.Cut true ≡ reply_pair (front_of behind) n expected behind
  unfolding reply_pair
  reply-cut q = rw (← e, q) refl

  pub reply-unmarked : frame ≡ Frame.Unmarked → Pair.Unmarked true ≡ reply_pair (front_of behind) n expected behind
  unfolding reply_pair
  reply-unmarked q = rw (← e, q) refl

  module _ (m : ℕ) (q : frame ≡ Frame.Whole m) where
    pub reply-within : 4 + m ≤ length behind
    reply-within = front-within behind m (rw q at e)

    found-length : length (bytes_in_frame m behind) ≡ m
    found-length = frame-length behind m (rw q at e)

    pub reply-length : (m ≡ length expected → ⊥) → Pair.WrongLength ≡ reply_pair (front_of behind) n expected behind
    unfolding reply_pair found_pair
    reply-length h = rw (← e, q, found-length, ne_eqb _ _ h) refl

    -- the reply's bytes, as the code lends them
    reply-bytes : take (4 + m - 4) (drop 4 behind) ≡ bytes_in_frame m behind
    unfolding bytes_in_frame
    reply-bytes = rw add-sub_cancel_left refl

    module _ (l : m ≡ length expected) (k : ℕ) (f : k ≡ first_wrong expected (take (4 + m - 4) (drop 4 behind))) where
      found_wrong : first_wrong expected (bytes_in_frame m behind) ≡ k
      found_wrong = sym (f ∙ ap (first_wrong expected) reply-bytes)

      pub reply_wrong : k < m → Pair.WrongByte k ≡ reply_pair (front_of behind) n expected behind
      unfolding reply_pair found_pair
      reply_wrong h = rw (← e, q, found_wrong, found-length, eq-eqb _ _ l, lt-ltb k m h) refl

      pub reply-good : m ≤ k → Pair.Good (8 + n + m) ≡ reply_pair (front_of behind) n expected behind
      unfolding reply_pair found_pair
      reply-good h = rw (← e, q, found_wrong, found-length, eq-eqb _ _ l, le-ltb k m h) refl
