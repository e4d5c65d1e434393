-- The inside of private functions' contracts.
use Rattle.std.specs.Prelude.{ℕ, ◌≤◌, ◌≡◌, List, ◌∷◌, ◌++◌, true, false, length, take, drop, replicate}
use Rattle.lbp16.specs.Space.{space_of, row}
use Rattle.lbp16.specs.Word.{word_of}
use Rattle.lbp16.specs.declared.word.Fields.{Fields}
use Rattle.packet.specs.Bytes.{bytes_of}
use Rattle.packet.specs.Step.{Step}
use Rattle.cue.specs.Records.{records, records_of}
use Rattle.cue.specs.Packing.{Command}
use Rattle.cue.specs.Compile.{output}
use Rattle.cue.specs.Records.{brief}
use Rattle.cue.specs.declared.records.Record.{Record}
use Rattle.planner.specs.Planner.{OneCell}
use Rattle.planner.specs.declared.draft.Draft.{Draft}
use Rattle.planner.specs.declared.draft.Cost.{Cost}

-- what keeps the method's sums small, and its packets inside a room of so many bytes
pub record Sized (p : Draft) (room : ℕ) : Type 0 where
  pub count : p.count ≤ 127
  pub packet : p.packet ≤ 1472
  pub reply : p.reply ≤ 1472
  pub most : p.end ≤ 2000000
  pub end : p.end ≤ room
  pub frame : p.frame ≤ p.end
  pub word : p.word ≤ p.end

-- the same before a new command, of a packet that may just have been opened
pub record Startable (p : Draft) : Type 0 where
  pub packet : p.packet ≤ 1472
  pub reply : p.reply ≤ 1472
  pub end : p.end ≤ 2000004

-- the sums of one draft are the other's
pub record Summed (p q : Draft) : Type 0 where
  pub packet : q.packet ≡ p.packet
  pub reply : q.reply ≡ p.reply
  pub end : q.end ≡ p.end

-- no element has more than four bytes
pub record Small (c : Cost) : Type 0 where
  pub element : c.element ≤ 4
  pub carried : c.carried ≤ 4
  pub answered : c.answered ≤ 4

-- nothing has changed from place `end` on
pub record Kept (end : ℕ) (before after : List ℕ) : Type 0 where
  pub beyond : drop end after ≡ drop end before

-- a proposal of n bytes at the front of the first `room` bytes, and nothing changed behind it
pub record Proposed (n room : ℕ) (before after : List ℕ) : Type 0 where
  pub fits : n ≤ room
  pub kept : Kept n before after

-- one command for n reads or writes of one cell
unfoldable pub still_command : ℕ → Step → Command
still_command n x =
    record { kind = x.kind; space = x.space; address = x.address; increment = false; elements = replicate n x.bytes }

-- the fields of its word where it reads
unfoldable pub still_fields : ℕ → Record → Fields
still_fields n r =
    record {
      write = false;
      address = true;
      info = false;
      space = r.space;
      size = (row (space_of r.space)).size;
      increment = false;
      count = n;
    }

-- a packet of one command without data, with its frame: 4C 42 04 00, word and address
unfoldable pub framed_command : ℕ → ℕ → List ℕ
framed_command word address = 0x4C ∷ 0x42 ∷ 0x04 ∷ 0x00 ∷ (bytes_of 2 word ++ bytes_of 2 address)

-- what is at the front of the room for a list of reads of one cell
unfoldable pub still_output : ℕ → Step → List ℕ
still_output n x = framed_command (word_of (still_fields n (brief x))) x.address

-- those bytes, and no others, for such a list
pub record StillPut (list : List ℕ) (n room : ℕ) (after : List ℕ) : Type 0 where
  pub eight : (k : ℕ) (x : Step) → OneCell list k x → 8 ≤ room → (n ≡ 8) × (take 8 after ≡ still_output k x)

-- a list whose records are packed in so many bytes
pub record Packs (list : List ℕ) (bytes : ℕ) : Type 0 where
  pub xs : List Step
  pub list-records : records_of list ≡ records xs
  pub size : bytes ≡ length (output xs)
