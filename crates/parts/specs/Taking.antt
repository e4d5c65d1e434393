-- Taking a cue list byte by byte, whatever is kept of the open packet (`P`) and however records are packed (`Packing`).
use Rattle.std.specs.Prelude.{ℕ, zero, suc, ◌+◌, List, [], ◌∷◌, ◌++◌, Bool, true, false, not, ◌||◌, ◌&&◌, cond, length, eqb, ltb}
use Rattle.lbp16.specs.Answer.{Answer, accepted, refused}
use Rattle.packet.specs.Step.{Step}
use Rattle.packet.specs.Rules.{first}
use Rattle.cue.specs.Records.{mark_at, read_mark, write_mark, record_kind, record_bytes, record_step, record_refusals, most_records}

-- One record more: the output of the packet that it closes, empty if it closes none, and the open packet after it.
pub record Turned (P : Type 0) : Type 0 where
  pub out : List ℕ
  pub packet : P

-- How records are packed: one record more, and the output of the open packet where the list ends.
pub record Packing (P : Type 0) : Type 0 where
  pub turned : P → Step → Turned P
  pub last : P → List ℕ

-- Bytes are taken; the list has ended; a fault stands, with this number.
pub data Standing : Type 0 where
  going : Standing
  ended : Standing
  faulted : ℕ → Standing

-- What is kept between bytes. `index` records are wholly taken; `collected` are the next one's bytes so far. A fault's
-- place is the index.
pub record State (P : Type 0) : Type 0 where
  pub standing : Standing
  pub index : ℕ
  pub collected : List ℕ
  pub packet : P

-- What a byte, or several, handed out, and the state after.
pub record Taken (P : Type 0) : Type 0 where
  pub out : List ℕ
  pub state : State P

unfoldable pub unknown_mark : List ℕ → Bool
unknown_mark rest = not (eqb (mark_at rest) read_mark) && not (eqb (mark_at rest) write_mark)

-- The byte at which a record shows whether it is good: its first if it is one too many, its second if its mark is
-- unknown, otherwise its last.
unfoldable pub decided_at : ℕ → List ℕ → ℕ
decided_at index rest =
    cond (eqb index most_records) 1 (cond (ltb (length rest) 2 || unknown_mark rest) 2 (record_bytes (record_kind rest)))

unfoldable pub faulted_by : {P : Type 0} → ℕ → State P → State P
faulted_by n s = record { standing = faulted n; index = s.index; collected = []; packet = s.packet }

-- A record that has shown whether it is good: number 0 if so.
unfoldable pub record_taken : {P : Type 0} → Packing P → ℕ → State P → Step → Taken P
record_taken r zero s x =
    let t = r.turned s.packet x in
    record { out = t.out; state = record { standing = going; index = s.index + 1; collected = []; packet = t.packet } }
record_taken r (suc n) s x = record { out = []; state = faulted_by (suc n) s }

-- What one byte does to the state.
unfoldable pub byte_taken : {P : Type 0} → Packing P → State P → ℕ → Taken P
byte_taken r s b =
    let rest = s.collected ++ (b ∷ []) in
    cond (ltb (length rest) (decided_at s.index rest))
    (record { out = []; state = record { standing = s.standing; index = s.index; collected = rest; packet = s.packet } })
    (record_taken r (first (record_refusals s.index rest)) s (record_step rest))

unfoldable pub is_going : Standing → Bool
is_going going = true
is_going ended = false
is_going (faulted n) = false

-- Bytes are taken while no packet is handed out and no fault shows.
unfoldable pub goes_on : {P : Type 0} → Taken P → Bool
goes_on t = is_going t.state.standing && eqb (length t.out) 0

-- The bytes of a part taken until the call stops, `taken` of them.
pub record Stopped (P : Type 0) : Type 0 where
  pub taken : ℕ
  pub left : Taken P

unfoldable pub one_more : {P : Type 0} → Stopped P → Stopped P
one_more s = record { taken = suc s.taken; left = s.left }

unfoldable pub bytes_taken : {P : Type 0} → Packing P → Taken P → List ℕ → Stopped P
bytes_taken r t [] = record { taken = 0; left = t }
bytes_taken r t (b ∷ bs) =
    cond (goes_on t) (one_more (bytes_taken r (byte_taken r t.state b) bs)) (record { taken = 0; left = t })

-- At the list's end the open packet is handed out; a record that is cut there is a fault, 22.
unfoldable pub end_taken : {P : Type 0} → Packing P → State P → List ℕ → Taken P
end_taken r s [] =
    record {
      out = r.last s.packet;
      state = record { standing = ended; index = s.index; collected = []; packet = s.packet };
    }
end_taken r s (b ∷ bs) = record { out = []; state = faulted_by 22 s }

-- A part's bytes, and the list's end if the part's end is (`last`) and the call has not stopped before it.
unfoldable pub part_taken : {P : Type 0} → Packing P → State P → List ℕ → Bool → Stopped P
part_taken r s part last =
    let b = bytes_taken r (record { out = []; state = s }) part in
    cond (last && goes_on b.left)
    (record { taken = b.taken; left = end_taken r b.left.state b.left.state.collected })
    b

-- the answer: how many bytes are handed out, or the refusal that stands
unfoldable pub answer_by : Standing → ℕ → ℕ → Answer
answer_by going index n = accepted (n ∷ [])
answer_by ended index n = accepted (n ∷ [])
answer_by (faulted number) index n = refused number index

unfoldable pub answered : {P : Type 0} → Taken P → Answer
answered t = answer_by t.state.standing t.state.index (length t.out)

-- A call: where a fault stands or the list has ended nothing is taken.
unfoldable pub called : {P : Type 0} → Packing P → State P → List ℕ → Bool → Stopped P
called r s part last =
    cond (is_going s.standing) (part_taken r s part last) (record { taken = 0; left = record { out = []; state = s } })

unfoldable pub fresh : {P : Type 0} → P → State P
fresh p = record { standing = going; index = 0; collected = []; packet = p }
