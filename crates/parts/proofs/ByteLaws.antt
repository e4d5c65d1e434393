-- One byte, as the code takes it.
use Prim.Native.Nat.{ℕ, zero, suc, ◌+◌, ◌≤◌, ◌<◌}
use mathlib.Core.Path.{◌≡◌, refl, sym, ◌∙◌}
use mathlib.Core.Logic.{◌≢◌}
use mathlib.Core.List.{List, [], ◌∷◌, ◌++◌}
use mathlib.Core.Bool.{true, false, cond}
use native.Mathlib.Omega.{arith}
use native.Mathlib.Numerals.{add-one}
use lib.Dec.{ltb}
use lib.ListN.{length, take, set, length-set}
use lib.Seq.{length-take-le, take-suc-set}
use borrow.Author.Tests.{lt-ltb, le-ltb}
use Rattle.packet.specs.Rules.{first}
use Rattle.packet.proofs.RuleLaws.{first_holds, first-within}
use Rattle.cue.specs.Records.{record_step, record_refusals}
use Rattle.cue.proofs.RecordLaws.{record_rising}
use Rattle.parts.specs.Taking.{Packing, State, faulted_by, decided_at, record_taken, byte_taken}
use Rattle.parts.specs.State.{held_packing, standing_of}
use Rattle.parts.specs.Inside.{Ranged, Rooms, Leaves, meant}
use Rattle.parts.specs.declared.state.Kept.{Kept}

-- a refused record's number is in the table
pub number-within : (index n : ℕ) (rest : List ℕ) → n ≡ first (record_refusals index rest) → n ≢ 0 → (20 < n) × (n ≤ 24)
number-within index n rest e z =
    first-within 20 24 (first_holds n (record_refusals index rest) (sym e) z) (record_rising index rest)

-- the byte behind those that are collected
pub byte_at : {P : Type 0} (p : Packing P) (s : State P) (b m : ℕ) (l : List ℕ) → l ≡ s.collected ++ (b ∷ []) → m ≡ length l
    → byte_taken p s b
    ≡ cond (ltb m (decided_at s.index l))
    (record { out = []; state = record { standing = s.standing; index = s.index; collected = l; packet = s.packet } })
    (record_taken p (first (record_refusals s.index l)) s (record_step l))
unfolding byte_taken
byte_at p s b m l e f = rw (f, e) refl

module _ (k : Kept) (b : ℕ) (rg : Ranged k) where
  abbrev bytes : List ℕ
  bytes = set k.bytes k.collected b

  abbrev rest : List ℕ
  rest = take (k.collected + 1) bytes

  pub shown-fits : k.collected + 1 ≤ length bytes
  shown-fits = rw (length-set, rg.bytes) (omega (arith, rg.collected))

  pub shown-length : k.collected + 1 ≡ length rest
  shown-length = sym (length-take-le (k.collected + 1) bytes shown-fits)

  rest-is : rest ≡ take k.collected k.bytes ++ (b ∷ [])
  rest-is =
      let h : k.collected < length k.bytes = rw rg.bytes (omega (arith, rg.collected)) in
      rw add-one (take-suc-set k.bytes k.collected b h)

  module _ (room old : List ℕ) (rm : Rooms room old) where
    byte-is : byte_taken held_packing (meant k room) b
        ≡ cond (ltb (k.collected + 1) (decided_at k.index rest))
        (record {
          out = [];
          state = record { standing = standing_of k.stands; index = k.index; collected = rest; packet = record { packer = k.packer; room = room } };
        })
        (record_taken held_packing (first (record_refusals k.index rest)) (meant k room) (record_step rest))
    unfolding meant
    byte-is = byte_at held_packing (meant k room) b (k.collected + 1) rest rest-is shown-length

    module _ (d : ℕ) (e : d ≡ decided_at k.index rest) where
      pub byte-waits : k.stands ≡ 0 → d ≤ 10 → k.collected + 1 < d
          → Leaves (byte_taken held_packing (meant k room) b)
          (record { stands = 0; collected = k.collected + 1; bytes = bytes; index = k.index; packer = k.packer }) 0 room old old
      unfolding meant
      byte-waits z m l =
          let t : ltb (k.collected + 1) (decided_at k.index rest) ≡ true = rw (← e) (lt-ltb _ _ l) in
          rw (byte-is, t)
          (record {
            state = rw z refl;
            written = refl;
            handed = refl;
            lent = refl;
            ranged =
                record {
                  stands = omega arith;
                  known = λ h. omega arith;
                  collected = omega arith;
                  bytes = rw length-set rg.bytes;
                  index = rg.index;
                  sound = rg.sound;
                };
            rooms = rm;
          })

      module _ (l : d ≤ k.collected + 1) (n : ℕ) (f : n ≡ first (record_refusals k.index rest)) where
        byte-shows : byte_taken held_packing (meant k room) b ≡ record_taken held_packing n (meant k room) (record_step rest)
        byte-shows =
            let t : ltb (k.collected + 1) (decided_at k.index rest) ≡ false = rw (← e) (le-ltb _ _ l) in
            byte-is ∙ rw (t, f) refl

        pub byte-faults : n ≢ 0 → (r : Kept)
            → r ≡ record { stands = n; collected = 0; bytes = k.bytes; index = k.index; packer = k.packer }
            → Leaves (byte_taken held_packing (meant k room) b) r 0 room old old
        unfolding record_taken faulted_by meant standing_of
        byte-faults z r g = rw (byte-shows, g) (go n (number-within k.index n rest f z))
          where
            go : (n : ℕ) → (20 < n) × (n ≤ 24)
                → Leaves (record_taken held_packing n (meant k room) (record_step rest))
                (record { stands = n; collected = 0; bytes = k.bytes; index = k.index; packer = k.packer }) 0 room old old
            go zero h = absurd (omega arith)
            go (suc zero) h = absurd (omega arith)
            go (suc (suc n)) h =
                record {
                  state = refl;
                  written = refl;
                  handed = refl;
                  lent = refl;
                  ranged =
                      record {
                        stands = h.1;
                        known = λ more. h.0;
                        collected = omega arith;
                        bytes = rg.bytes;
                        index = rg.index;
                        sound = rg.sound;
                      };
                  rooms = rm;
                }

        pub byte_record : n ≡ 0 → (r : Kept) (m : ℕ) (room₂ out : List ℕ)
            → Leaves (record_taken held_packing 0 (meant k room) (record_step rest)) r m room₂ out old
            → Leaves (byte_taken held_packing (meant k room) b) r m room₂ out old
        byte_record z r m room₂ out h = rw (byte-shows, z) h
