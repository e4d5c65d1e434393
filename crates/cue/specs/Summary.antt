-- What the compiler keeps of the packets instead of their bytes, and the packing rule on it: the last command, the sizes, and
-- places in the output. `summary` says what is kept; `PackerLaws` ties the rule here to that of Packing.antt.
use Rattle.std.specs.Prelude.{ℕ, ◌+◌, ◌-◌, ◌*◌, List, [], ◌∷◌, ◌++◌, Bool, true, false, not, ◌||◌, ◌&&◌, cond, length, eqb, ltb, leb}
use Rattle.std.specs.Bool.{beq}
use Rattle.std.proofs.lemmas.List.Edits.{sets}
use Rattle.lbp16.specs.Space.{space_of, space_number, row}
use Rattle.lbp16.specs.Word.{word_of}
use Rattle.lbp16.specs.declared.word.Fields.{Fields}
use Rattle.packet.specs.Bytes.{bytes_of}
use Rattle.packet.specs.Step.{is_write, carried, answered, reply_bytes, unlocked}
use Rattle.packet.specs.Command.{pick_kind, limit}
use Rattle.cue.specs.Records.{most_records}
use Rattle.cue.specs.Packing.{Open, Command, bytes_of_packet, packet_steps, commands_of}
use Rattle.cue.specs.Output.{frame_mark}
use Rattle.cue.specs.Compile.{bytes_of_output}
use Rattle.cue.specs.declared.records.Record.{Record}
use Rattle.cue.specs.declared.packer.Packer.{Packer}

-- the bytes of a record's element, in its packet and in the reply
unfoldable pub carried_by : Record → ℕ
carried_by r = carried (pick_kind r.write) (space_of r.space)

unfoldable pub answered_by : Record → ℕ
answered_by r = answered (pick_kind r.write) (space_of r.space)

-- The packets closed so far and the open one; `none` before the first record.
pub data Progress : Type 0 where
  none : Progress
  some : List (List Command) → Open → Progress

-- The most bytes of a list's output. A record adds at most 18: mark and length, an unlock, word and address, and an element.
abbrev pub most_output : ℕ
most_output = 18 * most_records

-- What the packer keeps; before the first record, a packet that has no room left. `unlock`: whether the last record put an unlock command before its own.
unfoldable pub summary : Progress → Bool → Packer
summary none unlock =
    record {
      write = false;
      space = 0;
      address = 0;
      count = 127;
      packet = limit + 1;
      reply = 0;
      unlocked = false;
      unlock = unlock;
      frame = 0;
      word = 0;
      end = 0;
      packets = 0;
    }
summary (some css o) unlock =
    let frame = length (bytes_of_output css) in
    record {
      write = is_write o.last.kind;
      space = space_number o.last.space;
      address = o.last.address;
      count = length o.last.elements;
      packet = length (bytes_of_packet (commands_of o));
      reply = reply_bytes (packet_steps (commands_of o));
      unlocked = unlocked false (packet_steps (commands_of o));
      unlock = unlock;
      frame = frame;
      word = frame + 4 + length (bytes_of_packet o.before);
      end = frame + 4 + length (bytes_of_packet (commands_of o));
      packets = length css + 1;
    }

-- (a) apart from the limits
unfoldable pub agrees : Packer → Record → Bool
agrees p r =
    beq p.write r.write && eqb p.space r.space
    && eqb r.address (p.address + p.count * (row (space_of p.space)).element)
    && ltb p.count 127

unfoldable pub fits : Packer → Bool
fits p = leb p.packet limit && leb p.reply limit

-- (a), for an element of so many bytes in its packet and in the reply
abbrev pub joined_with : Packer → ℕ → ℕ → Packer
joined_with p bytes answer =
    record {
      write = p.write;
      space = p.space;
      address = p.address;
      count = p.count + 1;
      packet = p.packet + bytes;
      reply = p.reply + answer;
      unlocked = p.unlocked;
      unlock = false;
      frame = p.frame;
      word = p.word;
      end = p.end + bytes;
      packets = p.packets;
    }

unfoldable pub joined_by : Packer → Record → Packer
joined_by p r = joined_with p (carried_by r) (answered_by r)

unfoldable pub unlock_for : Packer → Record → Bool
unlock_for p r = r.write && (row (space_of r.space)).locked && not p.unlocked

-- (b), where `need` says whether an unlock command comes first
abbrev pub started_with : Packer → Record → ℕ → ℕ → Bool → Packer
started_with p r bytes answer need =
    let unlock : ℕ = cond need 6 0 in
    record {
      write = r.write;
      space = r.space;
      address = r.address;
      count = 1;
      packet = p.packet + unlock + 4 + bytes;
      reply = p.reply + answer;
      unlocked = p.unlocked || need;
      unlock = need;
      frame = p.frame;
      word = p.end + unlock;
      end = p.end + unlock + 4 + bytes;
      packets = p.packets;
    }

unfoldable pub started_by : Packer → Record → Packer
started_by p r = started_with p r (carried_by r) (answered_by r) (unlock_for p r)

-- (c): behind this packet an empty one
unfoldable pub closed_by : Packer → Packer
closed_by p =
    record {
      write = p.write;
      space = p.space;
      address = p.address;
      count = p.count;
      packet = 0;
      reply = 0;
      unlocked = false;
      unlock = false;
      frame = p.end;
      word = p.word;
      end = p.end + 4;
      packets = p.packets + 1;
    }

unfoldable pub turned_by : Packer → Record → Packer
turned_by p r =
    cond (agrees p r && fits (joined_by p r)) (joined_by p r)
    (cond (fits (started_by p r)) (started_by p r) (started_by (closed_by p) r))

-- What the second pass writes for a record: the packet's mark and length, an unlock command that the record put in, the
-- last command's word and address, and the element's bytes.
unfoldable pub bytes_of_mark : ℕ → List ℕ
bytes_of_mark n = bytes_of 2 frame_mark ++ bytes_of 2 n

unfoldable pub last_fields : Packer → Fields
last_fields q =
    record {
      write = q.write;
      address = true;
      info = false;
      space = q.space;
      size = (row (space_of q.space)).size;
      increment = true;
      count = q.count;
    }

unfoldable pub bytes_of_header : Packer → List ℕ
bytes_of_header q = bytes_of 2 (word_of (last_fields q)) ++ bytes_of 2 q.address

abbrev pub bytes_of_unlock : List ℕ
bytes_of_unlock = 0x01 ∷ 0xD9 ∷ 0x1A ∷ 0x00 ∷ 0x02 ∷ 0x5A ∷ []

unfoldable pub framed_at : Packer → List ℕ → List ℕ
framed_at q room = sets room q.frame (bytes_of_mark q.packet)

unfoldable pub unlocked_at : Packer → List ℕ → List ℕ
unlocked_at q room = cond q.unlock (sets room (q.word - 6) bytes_of_unlock) room

unfoldable pub headed_at : Packer → List ℕ → List ℕ
headed_at q room = sets room q.word (bytes_of_header q)

unfoldable pub wrote : Packer → List ℕ → List ℕ → List ℕ
wrote q bytes room = sets (headed_at q (unlocked_at q (framed_at q room))) (q.end - length bytes) bytes
