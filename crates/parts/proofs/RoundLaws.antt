-- A state's bytes mean the state again.
use Prim.Native.Nat.{ℕ, zero, suc, ◌+◌, ◌*◌, ◌-◌, ◌/◌, ◌%◌, ◌≤◌, ◌<◌}
use mathlib.Core.Path.{◌≡◌, refl, sym, ap, ◌∙◌}
use mathlib.Core.List.{List, [], ◌∷◌, ◌++◌}
use mathlib.Core.Bool.{Bool, false, ◌&&◌, and-false}
use native.Mathlib.Omega.{arith}
use native.Mathlib.Decide.{dec_le}
use native.Mathlib.Nat.{sub-zero}
use lib.Dec.{eqb, ltb}
use lib.ListN.{length, take, drop, get_or, length-append, drop_of_length-le}
use lib.Seq.{drop_at, drop-cons}
use borrow.Author.Tests.{eq-eqb, ne_eqb, le-ltb}
use Rattle.lbp16.proofs.WordLaws.{bit-read}
use Rattle.packet.specs.Bytes.{number, bytes_of}
use Rattle.packet.proofs.ByteLaws.{number-of_bytes}
use Rattle.cue.specs.Summary.{Progress, summary}
use Rattle.cue.specs.Untrusted.{any_of}
use Rattle.cue.specs.declared.packer.Packer.{Packer}
use Rattle.cue.proofs.UntrustedLaws.{any_false}
use Rattle.cue.proofs.PackerLaws.{Following}
use Rattle.parts.specs.Taking.{State, Standing, going, ended, faulted}
use Rattle.parts.specs.State.{Held, unopened, pair_at, packer_at, padded, number_bytes, bytes_of_packer, standing_byte, standing_of, state_of}
use Rattle.parts.specs.State.{bad_numbers, bad_state, bytes_of_state}
use Rattle.parts.specs.Inside.{Alone, Sound}
use Rattle.parts.proofs.StateLaws.{length-packer}
use Rattle.parts.specs.Rule.{Opened}
use Rattle.parts.proofs.KeepLaws.{Known, InRange}
use Rattle.parts.proofs.AlikeLaws.{Alike, swap}
use Rattle.parts.proofs.SameLaws.{Same, progress_of}

-- the packer as it comes back: whether the last record put an unlock command in is not kept
abbrev pub relocked : Packer → Packer
relocked p =
    record {
      write = p.write;
      space = p.space;
      address = p.address;
      count = p.count;
      packet = p.packet;
      reply = p.reply;
      unlocked = p.unlocked;
      unlock = false;
      frame = p.frame;
      word = p.word;
      end = p.end;
      packets = p.packets;
    }

pub relocked-follows : (s : Progress) (p : Packer) → Following s p → Following s (relocked p)
unfolding summary
relocked-follows s p f = record { unlock = false; packer = go s f.unlock f.packer; rising = f.rising }
  where
    go : (s : Progress) (u : Bool) → p ≡ summary s u → relocked p ≡ summary s false
    go Progress.none u e = ap relocked e
    go (Progress.some css o) u e = ap relocked e

pub relocked-sound : {p : Packer} → Sound p → Sound (relocked p)
unfolding summary
relocked-sound (Sound.unopened u e) = Sound.unopened false (ap relocked e)
relocked-sound (Sound.alone a) =
    Sound.alone
    (record {
      frame = a.frame;
      end = a.end;
      packets = a.packets;
      packet = a.packet;
      some = a.some;
      word = a.word;
      reply = a.reply;
      count = a.count;
      space = a.space;
    })

two_bytes : (n : ℕ) → n < 65536 → number (bytes_of 2 n) ≡ n
two_bytes n h = number-of_bytes 2 n h

module _ (t : State Held) where
  abbrev p : Packer
  p = t.packet.packer

  packer-unopened : (u : Bool) → p ≡ summary Progress.none u → packer_at (bytes_of_state t) ≡ relocked p
  unfolding bytes_of_state padded bytes_of packer_at pair_at bytes_of_packer number unopened summary number_bytes
  packer-unopened u e = rw e refl

  packer-alone : Alone p → p.address < 65536 → packer_at (bytes_of_state t) ≡ relocked p
  unfolding bytes_of_state padded bytes_of packer_at pair_at bytes_of_packer number_bytes
  packer-alone a h =
      let n : eqb p.packets 0 ≡ false = rw a.packets refl in
      let size = two_bytes p.packet (omega (arith, a.packet)) in
      let some : eqb p.packet 0 ≡ false = ne_eqb p.packet 0 (λ z. omega (arith, a.some)) in
      rw (
        n,
        size,
        some,
        bit-read,
        bit-read,
        two_bytes p.address h,
        two_bytes p.reply (omega (arith, a.reply)),
        two_bytes p.word (omega (arith, a.word, a.packet)),
      )
      (λ i.
      record {
        write = p.write;
        space = p.space;
        address = p.address;
        count = p.count;
        packet = p.packet;
        reply = p.reply;
        unlocked = p.unlocked;
        unlock = false;
        frame = sym a.frame i;
        word = p.word;
        end = sym a.end i;
        packets = sym a.packets i;
      })

  pub packer-again : Sound p → p.address < 65536 → packer_at (bytes_of_state t) ≡ relocked p
  packer-again (Sound.unopened u e) h = packer-unopened u e
  packer-again (Sound.alone a) h = packer-alone a h

take_nil : (n : ℕ) → ◌≡◌ {A = List ℕ} (take n []) []
take_nil zero = refl
take_nil (suc n) = refl

-- the bytes collected, from i on
padded-front : (n i : ℕ) (c : List ℕ) → length c ≤ i + n → take (length c - i) (padded n i c) ≡ drop i c
unfolding padded
padded-front zero i c h = take_nil (length c - i) ∙ sym (drop_of_length-le c {i = i} (omega arith))
padded-front (suc n) i c h = go (dec_le (suc i) (length c)) (padded-front n (suc i) c (omega arith))
  where
    go : Dec (suc i ≤ length c) → take (length c - suc i) (padded n (suc i) c) ≡ drop (suc i) c
        → take (length c - i) (get_or c i 0 ∷ padded n (suc i) c) ≡ drop i c
    go (yes l) more =
        let e : length c - i ≡ suc (length c - suc i) = omega arith in
        rw (e, more, drop-cons c i 0 l) refl
    go (no l) more =
        let e : length c - i ≡ 0 = omega arith in
        rw e (sym (drop_of_length-le c {i = i} (omega arith)))

index-again : (n : ℕ) → n ≤ 100000
    → number (n % 256 ∷ n / 256 % 256 ∷ []) + 65536 * number (n / 256 / 256 % 256 ∷ n / 256 / 256 / 256 % 256 ∷ []) ≡ n
unfolding number
index-again n h =
    let m = n / 256 in
    let k = m / 256 in
    let a : n ≡ 256 * (n / 256) + n % 256 = omega arith in
    let b : n / 256 ≡ 256 * (n / 256 / 256) + n / 256 % 256 = omega arith in
    let c : n / 256 / 256 ≤ 1 = omega arith in
    let d : n / 256 / 256 % 256 ≡ n / 256 / 256 = omega arith in
    let e : n / 256 / 256 / 256 ≡ 0 = omega arith in
    rw (d, e) (omega arith)

pub standing-known : (k : Standing) → Known k → standing_of (standing_byte k) ≡ k
unfolding standing_of standing_byte
standing-known going h = refl
standing-known ended h = refl
standing-known (faulted zero) h = absurd (omega arith)
standing-known (faulted (suc zero)) h = absurd (omega arith)
standing-known (faulted (suc (suc n))) h = refl

stands_le : (k : Standing) → Known k → standing_byte k ≤ 24
unfolding standing_byte
stands_le going h = omega arith
stands_le ended h = omega arith
stands_le (faulted n) h = h.1

stands-middle : (k : Standing) → Known k → (ltb 1 (standing_byte k) && ltb (standing_byte k) 21) ≡ false
unfolding standing_byte
stands-middle going h = refl
stands-middle ended h = refl
stands-middle (faulted n) h = rw (le-ltb n 21 h.0) (and-false (ltb 1 n))

-- the numbers of a sound packer pass
record Passes (p : Packer) : Type 0 where
  space : p.space ≤ 7
  count : p.count ≤ 127
  reply : p.reply ≤ 1472
  end : p.end ≤ 1476
  word : p.word ≤ p.packet

passes : {p : Packer} → Sound p → Passes p
unfolding summary
passes (Sound.unopened u e) =
    rw e (record { space = omega arith; count = omega arith; reply = omega arith; end = omega arith; word = omega arith })
passes (Sound.alone a) =
    record { space = a.space; count = a.count; reply = a.reply; end = omega (arith, a.end, a.packet); word = a.word }

in_range_lem : (t : State Held) → InRange t → Sound t.packet.packer
    → any_of (bad_numbers (get_or (bytes_of_state t) 0 0) (get_or (bytes_of_state t) 1 0) t.index (relocked t.packet.packer)) ≡ false
unfolding bad_numbers bytes_of_state
in_range_lem t g s =
    let p = passes s in
    any_false
    (bad_numbers (standing_byte t.standing) (length t.collected) t.index (relocked t.packet.packer)) (
      le-ltb _ _ (stands_le t.standing g.known),
      (
        stands-middle t.standing g.known,
        (
          le-ltb _ _ g.short,
          (
            le-ltb _ _ g.few,
            (
              le-ltb _ _ p.space,
              (le-ltb _ _ p.count, (le-ltb _ _ p.reply, (le-ltb _ _ p.end, (le-ltb _ _ p.word, tt)))),
            ),
          ),
        ),
      ),
    )

module _ (t : State Held) (g : InRange t) (s : Sound t.packet.packer) (low : t.packet.packer.address < 65536)
    (wide : length t.packet.room ≡ 1476) where
  -- the parts of the state's bytes
  room-again : drop 28 (bytes_of_state t) ≡ t.packet.room
  unfolding bytes_of_state padded bytes_of
  room-again = drop_at (bytes_of_packer t.packet.packer) t.packet.room 12 (length-packer t.packet.packer)

  collected-again : take (get_or (bytes_of_state t) 1 0) (take 10 (drop 2 (bytes_of_state t))) ≡ t.collected
  unfolding bytes_of_state padded bytes_of
  collected-again = rw sub-zero at (padded-front 10 0 t.collected (omega (arith, g.short)))

  place-again : pair_at (bytes_of_state t) 12 + 65536 * pair_at (bytes_of_state t) 14 ≡ t.index
  unfolding bytes_of_state padded bytes_of pair_at
  place-again = index-again t.index g.few

  stands-again : standing_of (get_or (bytes_of_state t) 0 0) ≡ t.standing
  unfolding bytes_of_state
  stands-again = standing-known t.standing g.known

  pub state-again : state_of (bytes_of_state t)
      ≡ record {
        standing = t.standing;
        index = t.index;
        collected = t.collected;
        packet = record { packer = relocked t.packet.packer; room = t.packet.room };
      }
  unfolding state_of
  state-again = rw (stands-again, place-again, collected-again, packer-again t s low, room-again) refl

  length-again : length (bytes_of_state t) ≡ 1504
  unfolding bytes_of_state padded bytes_of
  length-again =
      let n : length (bytes_of_packer t.packet.packer ++ t.packet.room) ≡ 1488 =
      rw (length-append, length-packer, wide) refl in
      rw n refl

  pub good-again : bad_state (bytes_of_state t) ≡ false
  unfolding bad_state
  good-again =
      rw (eq-eqb (length (bytes_of_state t)) 1504 length-again, place-again, packer-again t s low) numbers
    where
      numbers : any_of (bad_numbers (get_or (bytes_of_state t) 0 0) (get_or (bytes_of_state t) 1 0) t.index (relocked t.packet.packer)) ≡ false
      numbers = in_range_lem t g s

-- A state that follows the packing rule's is good again when its bytes are read, and still follows it.
pub alike-again : (s : State Opened) (t : State Held) → InRange s → Alike Same s t
    → (bad_state (bytes_of_state t) ≡ false) × Alike Same s (state_of (bytes_of_state t))
alike-again s t g a = rw a.state (go a.packet a.same)
  where
    range : (h : Held) → InRange (swap s h)
    range h = record { few = g.few; short = g.short; known = g.known }

    go : (h : Held) → Same s.packet h
        → (bad_state (bytes_of_state (swap s h)) ≡ false) × Alike Same s (state_of (bytes_of_state (swap s h)))
    go h k = (
      good-again (swap s h) (range h) k.sound k.low k.wide,
      record {
        packet = record { packer = relocked h.packer; room = h.room };
        state = state-again (swap s h) (range h) k.sound k.low k.wide;
        same =
            record {
              following = relocked-follows (progress_of s.packet) h.packer k.following;
              old = k.old;
              long = k.long;
              now = k.now;
              wide = k.wide;
              sound = relocked-sound k.sound;
              low = k.low;
            };
      },
    )
