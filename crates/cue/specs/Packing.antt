-- The packing rule: which commands in which packets a list's records make. A packet is its commands in order.
use Rattle.std.specs.Prelude.{ℕ, ◌+◌, ◌*◌, List, [], ◌∷◌, ◌++◌, Bool, true, false, not, ◌&&◌, cond, length, eqb, ltb, leb}
use Rattle.std.specs.Bool.{beq}
use Rattle.lbp16.specs.Space.{Space, status, space_number, row}
use Rattle.lbp16.specs.Word.{word_of}
use Rattle.lbp16.specs.declared.word.Fields.{Fields}
use Rattle.packet.specs.Bytes.{bytes_of}
use Rattle.packet.specs.Step.{Kind, write, Step, is_write, reply_bytes, unlocked}
use Rattle.packet.specs.Command.{limit}

-- A command with its address; `elements` holds the bytes of each element, none for a read.
pub record Command : Type 0 where
  pub kind : Kind
  pub space : Space
  pub address : ℕ
  pub increment : Bool
  pub elements : List (List ℕ)

unfoldable pub command_fields : Command → Fields
command_fields c =
    record {
      write = is_write c.kind;
      address = true;
      info = false;
      space = space_number c.space;
      size = (row c.space).size;
      increment = c.increment;
      count = length c.elements;
    }

unfoldable pub join_all : List (List ℕ) → List ℕ
join_all [] = []
join_all (e ∷ es) = e ++ join_all es

-- a command's bytes: word, address, and the elements that are written
unfoldable pub bytes_of_command : Command → List ℕ
bytes_of_command c = bytes_of 2 (word_of (command_fields c)) ++ bytes_of 2 c.address ++ join_all c.elements

unfoldable pub bytes_of_packet : List Command → List ℕ
bytes_of_packet [] = []
bytes_of_packet (c ∷ cs) = bytes_of_command c ++ bytes_of_packet cs

-- a command's steps, d from one element to the next
unfoldable pub element_steps : Kind → Space → ℕ → ℕ → List (List ℕ) → List Step
element_steps k s a d [] = []
element_steps k s a d (e ∷ es) = record { kind = k; space = s; address = a; bytes = e } ∷ element_steps k s (a + d) d es

unfoldable pub command_steps : Command → List Step
command_steps c =
    element_steps c.kind c.space c.address (cond c.increment (row c.space).element 0) c.elements

unfoldable pub packet_steps : List Command → List Step
packet_steps [] = []
packet_steps (c ∷ cs) = command_steps c ++ packet_steps cs

-- 01 D9 1A 00 02 5A: 0x5A02 written to the unlock cell
unfoldable pub unlock_command : Command
unlock_command =
    record { kind = write; space = status; address = 0x1A; increment = false; elements = (0x02 ∷ 0x5A ∷ []) ∷ [] }

-- both limits: the packet's bytes and its reply's
unfoldable pub keeps_limits : List Command → Bool
keeps_limits cs = leb (length (bytes_of_packet cs)) limit && leb (reply_bytes (packet_steps cs)) limit

-- The open packet, with its last command apart.
pub record Open : Type 0 where
  pub before : List Command
  pub last : Command

unfoldable pub commands_of : Open → List Command
commands_of o = o.before ++ (o.last ∷ [])

-- both reads, or both writes
unfoldable pub same_kind : Kind → Kind → Bool
same_kind k l = beq (is_write k) (is_write l)

-- the open packet with a record joined to its last command
unfoldable pub joined : Open → Step → Open
joined o x =
    let c = o.last in
    record {
      before = o.before;
      last =
          record {
            kind = c.kind;
            space = c.space;
            address = c.address;
            increment = c.increment;
            elements = c.elements ++ (x.bytes ∷ []);
          };
    }

-- (a) kind and space agree, the address is the last address plus the element size, the count is below 127, and packet
-- and reply stay at or below the limit
unfoldable pub joins : Open → Step → Bool
joins o x =
    let c = o.last in
    same_kind c.kind x.kind && eqb (space_number c.space) (space_number x.space)
    && eqb x.address (c.address + length c.elements * (row c.space).element)
    && ltb (length c.elements) 127
    && keeps_limits (commands_of (joined o x))

-- a space 2 write in a packet without unlock
unfoldable pub needs_unlock : List Command → Step → Bool
needs_unlock cs x = is_write x.kind && (row x.space).locked && not (unlocked false (packet_steps cs))

-- (b) a new command in a packet of these commands, with address, increment and count 1; where needed the unlock first
unfoldable pub started : List Command → Step → Open
started cs x =
    record {
      before = cs ++ cond (needs_unlock cs x) (unlock_command ∷ []) [];
      last =
          record { kind = x.kind; space = x.space; address = x.address; increment = true; elements = x.bytes ∷ [] };
    }

-- One record more: the packets that it closes, and the open packet after it.
pub record Turn : Type 0 where
  pub closed : List (List Command)
  pub open? : Open

unfoldable pub turn_by : Bool → Bool → Open → Step → Turn
turn_by true fits o x = record { closed = []; open? = joined o x }
turn_by false true o x = record { closed = []; open? = started (commands_of o) x }
turn_by false false o x = record { closed = commands_of o ∷ []; open? = started [] x }

-- (a), otherwise (b), otherwise (c)
unfoldable pub turn : Open → Step → Turn
turn o x = turn_by (joins o x) (keeps_limits (commands_of (started (commands_of o) x))) o x

unfoldable pub pack_from : Open → List Step → List (List Command)
pack_from o [] = commands_of o ∷ []
pack_from o (x ∷ xs) = (turn o x).closed ++ pack_from (turn o x).open? xs

-- The first record opens the first packet, and the list's end closes the open one.
unfoldable pub packets : List Step → List (List Command)
packets [] = []
packets (x ∷ xs) = pack_from (started [] x) xs
