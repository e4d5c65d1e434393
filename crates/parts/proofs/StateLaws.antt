-- Laws of the lent state's bytes.
use Prim.Native.Nat.{ℕ, zero, suc, ◌+◌, ◌*◌, ◌/◌, ◌%◌, ◌≤◌, ◌<◌}
use mathlib.Core.Path.{◌≡◌, refl, sym, ap, ◌∙◌}
use mathlib.Core.List.{List, [], ◌∷◌, ◌++◌}
use mathlib.Core.Bool.{Bool, true, false, cond}
use native.Mathlib.Omega.{arith}
use lib.Dec.{eqb}
use lib.ListN.{length, take, drop, get_or, length-take, get_or-eq_default}
use lib.Seq.{drop-cons, get_or-take, take_all}
use Rattle.lbp16.specs.Word.{bit}
use Rattle.packet.specs.Bytes.{bytes_of}
use borrow.Author.Tests.{ne_eqb}
use Rattle.cue.specs.declared.packer.Packer.{Packer}
use Rattle.parts.specs.State.{unopened, pair_at, packer_at, padded, number_bytes, bytes_of_packer, standing_byte, standing_of, bytes_of_state}
use Rattle.parts.specs.Inside.{kept_at, meant, Ranged}
use Rattle.parts.specs.declared.state.Kept.{Kept}

-- bytes that are all there
pub padded-is : (n i : ℕ) (s : List ℕ) → i + n ≤ length s → take n (drop i s) ≡ padded n i s
unfolding padded
padded-is zero i s h = refl
padded-is (suc n) i s h = rw (drop-cons s i 0 (omega arith), padded-is n (suc i) s (omega arith)) refl

-- taking a state apart, as the code does
module _ (s : List ℕ) where
  pub packer-none : (size : ℕ) (p : Packer) → size ≡ pair_at s 22 → size ≡ 0 → p ≡ unopened → p ≡ packer_at s
  unfolding packer_at
  packer-none size p e z q = rw (← e, z) q

  pub packer-some : (size address reply word : ℕ) → size ≡ pair_at s 22 → (size ≡ 0 → ⊥) → address ≡ pair_at s 18
      → reply ≡ pair_at s 24 → word ≡ pair_at s 26
      → record {
        write = eqb (get_or s 16 0) 1;
        space = get_or s 17 0;
        address = address;
        count = get_or s 20 0;
        packet = size;
        reply = reply;
        unlocked = eqb (get_or s 21 0) 1;
        unlock = false;
        frame = 0;
        word = word;
        end = 4 + size;
        packets = 1;
      }
      ≡ packer_at s
  unfolding packer_at
  packer-some size address reply word e z a r w = rw (← e, ne_eqb size 0 z, ← a, ← r, ← w) refl

  pub kept-is : (low high : ℕ) (bytes : List ℕ) (p : Packer) → bytes ≡ take 10 (drop 2 s) → low ≡ pair_at s 12 → high ≡ pair_at s 14 → p ≡ packer_at s
      → record {
        stands = get_or s 0 0;
        collected = get_or s 1 0;
        bytes = bytes;
        index = low + 65536 * high;
        packer = p;
      }
      ≡ kept_at s
  unfolding kept_at
  kept-is low high bytes p d a b e = rw (d, a, b, e) refl

-- putting a state together
pub numbers-none : (p q : Packer) → p.packets ≡ 0
    → q ≡ record {
      write = false;
      space = 0;
      address = 0;
      count = 0;
      packet = 0;
      reply = 0;
      unlocked = false;
      unlock = false;
      frame = 0;
      word = 0;
      end = 0;
      packets = 0;
    }
    → number_bytes q ≡ bytes_of_packer p
unfolding number_bytes bytes_of_packer padded bytes_of bit
numbers-none p q e f = rw (e, f) refl

pub numbers-some : (p : Packer) → (p.packets ≡ 0 → ⊥) → number_bytes p ≡ bytes_of_packer p
unfolding bytes_of_packer
numbers-some p z = rw (ne_eqb p.packets 0 z) refl

pub packer-put : (p q : Packer) (w u : ℕ) → number_bytes q ≡ bytes_of_packer p → w ≡ bit q.write → u ≡ bit q.unlocked
    → w ∷ q.space ∷ q.address % 256 ∷ q.address / 256 % 256 ∷ q.count ∷ u ∷ q.packet % 256 ∷ q.packet / 256 % 256
    ∷ q.reply % 256 ∷ q.reply / 256 % 256 ∷ q.word % 256 ∷ q.word / 256 % 256 ∷ []
    ≡ bytes_of_packer p
unfolding number_bytes bytes_of
packer-put p q w u e a b = rw (a, b) e

pub collected-put : (l : List ℕ) (a b c d e f g h i j : ℕ)
    → a ≡ get_or l 0 0 → b ≡ get_or l 1 0 → c ≡ get_or l 2 0 → d ≡ get_or l 3 0 → e ≡ get_or l 4 0
    → f ≡ get_or l 5 0 → g ≡ get_or l 6 0 → h ≡ get_or l 7 0 → i ≡ get_or l 8 0 → j ≡ get_or l 9 0
    → a ∷ b ∷ c ∷ d ∷ e ∷ f ∷ g ∷ h ∷ i ∷ j ∷ [] ≡ padded 10 0 l
unfolding padded
collected-put l a b c d e f g h i j p q r s t u v w x y = rw (p, q, r, s, t, u, v, w, x, y) refl

pub byte-there : (bytes : List ℕ) (n i : ℕ) → i < n → get_or bytes i 0 ≡ get_or (take n bytes) i 0
byte-there bytes n i h = sym (get_or-take n bytes i 0 h)

pub byte-behind : (bytes : List ℕ) (n i : ℕ) → n ≤ i → 0 ≡ get_or (take n bytes) i 0
byte-behind bytes n i h = sym (get_or-eq_default (take n bytes) 0 {n = i} (rw length-take (omega arith)))

pub padded_self : (n : ℕ) (l : List ℕ) → length l ≡ n → padded n 0 l ≡ l
padded_self n l e = sym (padded-is n 0 l (omega arith)) ∙ take_all n l (omega arith)

pub length-padded : (n i : ℕ) (l : List ℕ) → length (padded n i l) ≡ n
unfolding padded
length-padded zero i l = refl
length-padded (suc n) i l = ap suc (length-padded n (suc i) l)

pub length-packer : (p : Packer) → length (bytes_of_packer p) ≡ 12
unfolding bytes_of_packer number_bytes bytes_of padded
length-packer p = go (eqb p.packets 0)
  where
    go : (b : Bool)
        → length
        (cond b (padded 12 0 [])
        (number_bytes p))
        ≡ 12
    go true = refl
    go false = refl

pub standing-again : (n : ℕ) → standing_byte (standing_of n) ≡ n
unfolding standing_byte standing_of
standing-again zero = refl
standing-again (suc zero) = refl
standing-again (suc (suc n)) = refl

save_parts : (k : Kept) (room b p : List ℕ) → Ranged k → b ≡ padded 10 0 (take k.collected k.bytes)
    → p ≡ bytes_of_packer k.packer
    → (k.stands % 256 ∷ k.collected % 256 ∷ padded 10 0 b) ++ bytes_of 4 k.index ++ padded 12 0 p ++ room
    ≡ bytes_of_state (meant k room)
unfolding bytes_of_state meant
save_parts k room b p r e f =
    let c = take k.collected k.bytes in
    let n : length c ≡ k.collected = rw (length-take, r.bytes) (omega (arith, r.collected)) in
    let x : k.stands % 256 ≡ k.stands = omega (arith, r.stands) in
    let y : k.collected % 256 ≡ k.collected = omega (arith, r.collected) in
    let u : padded 10 0 b ≡ padded 10 0 c = padded_self 10 b (rw e (length-padded 10 0 c)) ∙ e in
    let v : padded 12 0 p ≡ bytes_of_packer k.packer = padded_self 12 p (rw f (length-packer k.packer)) ∙ f in
    rw (x, y, u, v, standing-again, n) refl

pub saved : (k : Kept) (s b p now : List ℕ) → Ranged k → b ≡ padded 10 0 (take k.collected k.bytes)
    → p ≡ bytes_of_packer k.packer
    → now ≡ (k.stands % 256 ∷ k.collected % 256
    ∷ get_or b 0 0 ∷ get_or b 1 0 ∷ get_or b 2 0 ∷ get_or b 3 0 ∷ get_or b 4 0 ∷ get_or b 5 0 ∷ get_or b 6 0 ∷ get_or b 7 0 ∷ get_or b 8 0 ∷ get_or b 9 0
    ∷ k.index % 256 ∷ k.index / 256 % 256 ∷ k.index / 256 / 256 % 256 ∷ k.index / 256 / 256 / 256 % 256
    ∷ get_or p 0 0 ∷ get_or p 1 0 ∷ get_or p 2 0 ∷ get_or p 3 0 ∷ get_or p 4 0 ∷ get_or p 5 0 ∷ get_or p 6 0 ∷ get_or p 7 0 ∷ get_or p 8 0 ∷ get_or p 9 0
    ∷ get_or p 10 0 ∷ get_or p 11 0 ∷ []) ++ drop 28 s
    → now ≡ bytes_of_state (meant k (drop 28 s))
unfolding padded bytes_of
saved k s b p now r e f g = g ∙ save_parts k (drop 28 s) b p r e f
