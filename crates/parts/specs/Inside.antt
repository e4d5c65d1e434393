-- The inside of private functions' contracts.
use Rattle.std.specs.Prelude.{ℕ, ◌+◌, ◌*◌, ◌≤◌, ◌<◌, ◌≡◌, List, [], ◌∷◌, ◌++◌}
use Rattle.std.specs.Prelude.{length, take, drop, get_or, eqb, ltb, leb, Bool, true, false, not, ◌&&◌}
use Rattle.lbp16.specs.Answer.{accepted}
use Rattle.packet.specs.Bytes.{number}
use Rattle.packet.specs.Command.{limit, pick_kind}
use Rattle.packet.specs.Step.{Step}
use Rattle.packet.specs.Rules.{first}
use Rattle.cue.specs.Records.{read_mark, write_mark, record_bytes, most_records, record_refusals}
use Rattle.cue.specs.Summary.{Progress, summary}
use Rattle.cue.specs.declared.packer.Packer.{Packer}
use Rattle.parts.specs.Taking.{State, Taken, Stopped, decided_at, bytes_taken}
use Rattle.parts.specs.State.{Held, held_packing, held_turned, written, packer_at, pair_at, standing_of}
use Rattle.cue.specs.Output.{frame_room}
use Rattle.parts.specs.Parts.{part_of}
use Rattle.parts.specs.declared.state.Kept.{Kept}
use Rattle.parts.specs.declared.take.Stop.{Stop}
use Rattle.parts.specs.declared.take.Run.{Run}

-- a state's numbers, and what they mean beside the open packet's room
unfoldable pub kept_at : List ℕ → Kept
kept_at s =
    record {
      stands = get_or s 0 0;
      collected = get_or s 1 0;
      bytes = take 10 (drop 2 s);
      index = pair_at s 12 + 65536 * pair_at s 14;
      packer = packer_at s;
    }

unfoldable pub meant : Kept → List ℕ → State Held
meant k room =
    record {
      standing = standing_of k.stands;
      index = k.index;
      collected = take k.collected k.bytes;
      packet = record { packer = k.packer; room = room };
    }

-- a packer of one open packet, whose frame is at the front of its room
pub record Alone (p : Packer) : Type 0 where
  pub frame : p.frame ≡ 0
  pub end : p.end ≡ 4 + p.packet
  pub packets : p.packets ≡ 1
  pub packet : p.packet ≤ limit
  pub some : 1 ≤ p.packet
  pub word : p.word ≤ p.packet
  pub reply : p.reply ≤ limit
  pub count : p.count ≤ 127
  pub space : p.space ≤ 7

-- or of none
pub data Sound (p : Packer) : Type 0 where
  unopened : (u : Bool) → p ≡ summary Progress.none u → Sound p
  alone : Alone p → Sound p

-- what keeps a call's work in range
pub record Ranged (k : Kept) : Type 0 where
  pub stands : k.stands ≤ 24
  pub known : 1 < k.stands → 21 ≤ k.stands
  pub collected : k.collected ≤ 9
  pub bytes : length k.bytes ≡ 10
  pub index : k.index ≤ most_records
  pub sound : Sound k.packer

-- the rooms of the open packet and for what is handed out
pub record Rooms (room out : List ℕ) : Type 0 where
  pub held : length room ≡ frame_room
  pub lent : frame_room ≤ length out

-- a record that no rule refuses, at some index
pub record Good (rest : List ℕ) : Type 0 where
  pub index : ℕ
  pub passes : first (record_refusals index rest) ≡ 0

-- The packer `q` after a record, with `n` bytes handed out.
pub record Turns (h : Held) (x : Step) (q : Packer) (n : ℕ) (out old : List ℕ) : Type 0 where
  pub packet : (held_turned h x).packet ≡ written q x h.room
  pub count : n ≡ length (held_turned h x).out
  pub handed : out ≡ (held_turned h x).out ++ drop (length (held_turned h x).out) old
  pub lent : length out ≡ length old
  pub alone : Alone q
  pub behind : q.unlock ≡ true → 6 ≤ q.word

-- What the code answers and leaves where the definition says `t`, with `n` bytes written; `old`: the room for what is
-- handed out, before.
pub record Leaves (t : Taken Held) (k : Kept) (n : ℕ) (room out old : List ℕ) : Type 0 where
  pub state : meant k room ≡ t.state
  pub written : n ≡ length t.out
  pub handed : out ≡ t.out ++ drop (length t.out) old
  pub lent : length out ≡ length old
  pub ranged : Ranged k
  pub rooms : Rooms room out

pub record Stops (s : Stopped Held) (r : Stop) (room out old : List ℕ) : Type 0 where
  pub taken : r.taken ≡ s.taken
  pub left : Leaves s.left r.kept r.written room out old

-- before a part's first byte
unfoldable pub start_at : Kept → List ℕ → Taken Held
start_at k room = record { out = []; state = meant k room }

-- what a part's bytes leave, n behind the first
unfoldable pub more_by : ℕ → Stopped Held → Stopped Held
more_by n s = record { taken = n + s.taken; left = s.left }

-- What holds where `at` bytes of the part are taken: `t` is what they left.
pub record Going (start : Taken Held) (part old : List ℕ) (k : Kept) (n at : ℕ) (room out : List ℕ) : Type 0 where
  pub t : Taken Held
  pub leaves : Leaves t k n room out old
  pub within : at ≤ length part
  pub same : bytes_taken held_packing start part ≡ more_by at (bytes_taken held_packing t (drop at part))

-- what is kept where no byte waits
unfoldable pub plain : List ℕ → Packer → ℕ → Kept
plain bytes p index = record { stands = 0; collected = 0; bytes = bytes; index = index; packer = p }

-- The same behind whole records, whatever is kept of bytes before and whatever the room for what is handed out.
pub record Runs (p : Packer) (index : ℕ) (part room : List ℕ) (r : Run) (room₂ : List ℕ) : Type 0 where
  pub held : length room₂ ≡ frame_room
  pub within : r.taken ≤ length part
  pub sound : Sound r.packer
  pub few : r.index ≤ most_records
  pub going : (bytes old : List ℕ) → length bytes ≡ 10 → Rooms room old
      → Going (start_at (plain bytes p index) room) part old (plain bytes r.packer r.index) 0 r.taken room₂ old

-- What keeps a byte from going straight into a state: bytes are not taken, a number is out of its range, or no packet is
-- open; and a flag that is neither 0 nor 1, which a call would write anew.
unfoldable pub unfit_tests : List ℕ → List Bool
unfit_tests s =
    not (eqb (get_or s 0 0) 0)
    ∷ leb most_records (pair_at s 12 + 65536 * pair_at s 14)
    ∷ ltb 7 (get_or s 17 0)
    ∷ ltb 127 (get_or s 20 0)
    ∷ ltb limit (pair_at s 24)
    ∷ ltb limit (pair_at s 22)
    ∷ ltb (pair_at s 22) (pair_at s 26)
    ∷ eqb (pair_at s 22) 0
    ∷ ltb 1 (get_or s 16 0)
    ∷ ltb 1 (get_or s 21 0)
    ∷ []

-- a known mark, of a record that is longer than `at` bytes and one
pub record Marked (mark at : ℕ) : Type 0 where
  pub known : (not (eqb mark read_mark) && not (eqb mark write_mark)) ≡ false
  pub longer : at + 1 < record_bytes (pick_kind (eqb mark write_mark))

-- A byte behind `at` others that does not show whether the record is good, where the room behind them is 0.
pub record Waits (at : ℕ) (room : List ℕ) (b : ℕ) : Type 0 where
  pub few : at ≤ 8
  pub behind : number (drop at room) ≡ 0
  pub waits : (index : ℕ) → (index ≡ most_records → ⊥) → at + 1 < decided_at index (take at room ++ (b ∷ []))

-- A part of one byte that is taken, with nothing handed out; or a part that is left alone.
pub record Single (took : Bool) (s part : List ℕ) (last : Bool) (s₂ : List ℕ) : Type 0 where
  pub taken : took ≡ true → (room : List ℕ) → frame_room ≤ length room
      → part_of s part last room ≡ record { answer = accepted (0 ∷ []); taken = 1; state = s₂; room = room }
  pub still : took ≡ false → s₂ ≡ s
