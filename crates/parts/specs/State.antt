-- The state that is lent between calls: 1,504 bytes, all 0 before the first call.
--
--     0        what stands: 0 bytes are taken, 1 the list has ended, otherwise the fault's number
--     1        how many bytes of the next record are collected
--     2..11    those bytes, 0 behind them
--     12..15   how many records are wholly taken
--     16..27   what is known of the open packet: of its last command the kind (1 a write), space, address (2) and count,
--              whether the unlock is open (1), the packet's bytes (2; 0: none is open), its reply's (2), and where the
--              last command's word stands behind the mark (2)
--     28..1503 the open packet behind its mark and length
--
-- Numbers stand low byte first.
use Rattle.std.specs.Prelude.{ℕ, zero, suc, ◌+◌, ◌*◌, List, [], ◌∷◌, ◌++◌, Bool, false, not, ◌&&◌, ◌||◌, cond, length, take, drop, get_or, eqb, ltb}
use Rattle.lbp16.specs.Word.{bit}
use Rattle.packet.specs.Bytes.{number, bytes_of}
use Rattle.packet.specs.Step.{Step}
use Rattle.packet.specs.Command.{limit}
use Rattle.cue.specs.Records.{most_records}
use Rattle.cue.specs.Summary.{Progress, summary, turned_by, wrote}
use Rattle.cue.specs.Records.{brief}
use Rattle.cue.specs.Untrusted.{any_of}
use Rattle.cue.specs.Output.{frame_room}
use Rattle.cue.specs.declared.packer.Packer.{Packer}
use Rattle.parts.specs.Taking.{Packing, Turned, Standing, going, ended, faulted, State}

abbrev pub state_bytes : ℕ
state_bytes = 1504

-- The open packet as it is kept: what the packer knows of it, and the packet behind its mark and length.
pub record Held : Type 0 where
  pub packer : Packer
  pub room : List ℕ

-- the packer before the first record
unfoldable pub unopened : Packer
unopened = summary Progress.none false

unfoldable pub written : Packer → Step → List ℕ → Held
written q x room = record { packer = q; room = wrote q x.bytes room }

-- A record that would open a second packet closes this one, and opens one of its own.
unfoldable pub held_turned : Held → Step → Turned Held
held_turned h x =
    let q = turned_by h.packer (brief x) in
    cond (eqb q.packets 2)
    (record { out = take h.packer.end h.room; packet = written (turned_by unopened (brief x)) x h.room })
    (record { out = []; packet = written q x h.room })

unfoldable pub held_packing : Packing Held
held_packing = record { turned = held_turned; last = λ h. take h.packer.end h.room }

-- two bytes of the state as a number
unfoldable pub pair_at : List ℕ → ℕ → ℕ
pair_at s i = number (take 2 (drop i s))

unfoldable pub packer_at : List ℕ → Packer
packer_at s =
    let bytes = pair_at s 22 in
    cond (eqb bytes 0) unopened
    (record {
      write = eqb (get_or s 16 0) 1;
      space = get_or s 17 0;
      address = pair_at s 18;
      count = get_or s 20 0;
      packet = bytes;
      reply = pair_at s 24;
      unlocked = eqb (get_or s 21 0) 1;
      unlock = false;
      frame = 0;
      word = pair_at s 26;
      end = 4 + bytes;
      packets = 1;
    })

unfoldable pub standing_of : ℕ → Standing
standing_of zero = going
standing_of (suc zero) = ended
standing_of (suc (suc n)) = faulted (suc (suc n))

-- What a state's bytes mean.
unfoldable pub state_of : List ℕ → State Held
state_of s =
    record {
      standing = standing_of (get_or s 0 0);
      index = pair_at s 12 + 65536 * pair_at s 14;
      collected = take (get_or s 1 0) (take 10 (drop 2 s));
      packet = record { packer = packer_at s; room = drop 28 s };
    }

-- Refusal 1: a state of another length, or with a number out of its range. What stands is 0, 1 or 21 to 24; at most 9 bytes are
-- collected, and at most 100,000 records taken. Of an open packet its last command has a space of at most 7 and a count of at
-- most 127, packet and reply have at most 1,472 bytes each, and the word's place is at most the packet's bytes. Kind, address and
-- unlock may be anything, and all of them while no packet is open.
unfoldable pub bad_numbers : ℕ → ℕ → ℕ → Packer → List Bool
bad_numbers stands collected index p =
    ltb 24 stands
    ∷ (ltb 1 stands && ltb stands 21)
    ∷ ltb 9 collected
    ∷ ltb most_records index
    ∷ ltb 7 p.space
    ∷ ltb 127 p.count
    ∷ ltb limit p.reply
    ∷ ltb frame_room p.end
    ∷ ltb p.packet p.word
    ∷ []

unfoldable pub bad_state : List ℕ → Bool
bad_state s =
    not (eqb (length s) state_bytes)
    || any_of (bad_numbers (get_or s 0 0) (get_or s 1 0) (pair_at s 12 + 65536 * pair_at s 14) (packer_at s))

unfoldable pub standing_byte : Standing → ℕ
standing_byte going = 0
standing_byte ended = 1
standing_byte (faulted n) = n

-- a list's bytes from i on, n of them, 0 behind its end
unfoldable pub padded : ℕ → ℕ → List ℕ → List ℕ
padded zero i l = []
padded (suc n) i l = get_or l i 0 ∷ padded n (suc i) l

-- what is known of an open packet, and of none
unfoldable pub number_bytes : Packer → List ℕ
number_bytes p =
    bit p.write ∷ p.space ∷ bytes_of 2 p.address ++ (p.count ∷ bit p.unlocked ∷ bytes_of 2 p.packet)
    ++ bytes_of 2 p.reply ++ bytes_of 2 p.word

unfoldable pub bytes_of_packer : Packer → List ℕ
bytes_of_packer p = cond (eqb p.packets 0) (padded 12 0 []) (number_bytes p)

-- The bytes that mean a state.
unfoldable pub bytes_of_state : State Held → List ℕ
bytes_of_state s =
    (standing_byte s.standing ∷ length s.collected ∷ padded 10 0 s.collected) ++ bytes_of 4 s.index
    ++ bytes_of_packer s.packet.packer ++ s.packet.room
