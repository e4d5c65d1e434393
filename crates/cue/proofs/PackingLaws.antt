-- Packing loses nothing: the packets are sound, keep the limits, and hold the records in order.
use Prim.Native.Nat.{ℕ, ◌+◌, ◌*◌, ◌≤◌, ◌<◌}
use mathlib.Core.Path.{◌≡◌, refl, sym, ap, ◌∙◌}
use mathlib.Core.List.{List, [], ◌∷◌, ◌++◌, append_assoc, append-nil}
use mathlib.Core.Bool.{Bool, true, false, not, ◌&&◌, cond, and-false}
use native.Mathlib.Omega.{arith}
use lib.Dec.{eqb, ltb, leb}
use lib.ListN.{length, length-append}
use lib.Seq.{append_snoc}
use borrow.Author.Tests.{eqb-true, ltb-true, ltb-false, leb-true, le-leb}
use Rattle.lbp16.proofs.BoolLaws.{and_true, beq_true}
use Rattle.lbp16.proofs.SpaceLaws.{bytes_le, element_pos}
use Rattle.lbp16.specs.Space.{Space, registers, eeprom, status, information, absent, space_of, space_number, is_absent, row, area_row}
use Rattle.packet.specs.Step.{Kind, read, write, infoRead, Step, is_info, row_by, carried, answered, is_write, is_status, names_unlock, reply_bytes}
use Rattle.packet.specs.Step.{unlocked_after, unlocked}
use Rattle.packet.specs.Bytes.{number}
use Rattle.packet.specs.Rules.{misaligned, past_end, barred, any_step}
use Rattle.packet.specs.Command.{pick_kind, limit}
use Rattle.packet.proofs.StepLaws.{unlocked-append, reply-append, any_append, any_one, carried_le, answered_le, pick-again, row_plain}
use Rattle.cue.specs.Records.{bad_element, record_bytes}
use Rattle.cue.specs.Packing.{Command, join_all, bytes_of_packet, element_steps, command_steps, packet_steps}
use Rattle.cue.specs.Packing.{unlock_command, keeps_limits, Open, commands_of, same_kind, joined, joins, needs_unlock}
use Rattle.cue.specs.Packing.{started, Turn, turn_by, turn, pack_from, packets}
use Rattle.cue.proofs.RecordLaws.{good-element}
use Rattle.cue.proofs.Relations.{Wide, Sound, SoundAll, Mixed, Good}
use Rattle.cue.proofs.PacketLaws.{packet-bytes_append, packet-steps_append, command-length, element-steps_append}
use Rattle.cue.proofs.PacketLaws.{wide-append, mixed-append, sound-append}

-- a packet that is sound, keeps the limits and holds these records
pub record Kept (cs : List Command) (xs : List Step) : Type 0 where
  pub sound : SoundAll false cs
  pub short : length (bytes_of_packet cs) ≤ limit
  pub reply : reply_bytes (packet_steps cs) ≤ limit
  pub mixed : Mixed (packet_steps cs) xs

-- packets that hold these records, in order
pub data Packed : List (List Command) → List Step → Type 0 where
  none : Packed [] []
  more : {cs : List Command} {css : List (List Command)} {xs ys : List Step} → Kept cs xs → Packed css ys
      → Packed (cs ∷ css) (xs ++ ys)

-- what is known of a good record
record Element (x : Step) : Type 0 where
  plain : is_info x.kind ≡ false
  present : is_absent x.space ≡ false
  aligned : misaligned (row x.space) x.address ≡ false
  inside : past_end x ≡ false
  allowed : barred x ≡ false
  wide : length x.bytes ≡ carried x.kind x.space

element : (x : Step) → bad_element x ≡ false → is_info x.kind ≡ false → length x.bytes ≡ carried x.kind x.space
    → Element x
element x e p w =
    let (present, aligned, inside, allowed, other) = good-element x e in
    record { plain = p; present = present; aligned = aligned; inside = inside; allowed = allowed; wide = w }

-- what rule (a) asks of a record that joins
pub record Joining (o : Open) (x : Step) : Type 0 where
  pub kind : o.last.kind ≡ x.kind
  pub space : o.last.space ≡ x.space
  pub address : x.address ≡ o.last.address + length o.last.elements * (row o.last.space).element
  pub few : length o.last.elements < 127
  pub limits : keeps_limits (commands_of (joined o x)) ≡ true

-- kinds and spaces that the tests find equal are equal
pub same_kind_lem : (k l : Kind) → is_info k ≡ false → is_info l ≡ false → same_kind k l ≡ true → k ≡ l
unfolding same_kind
same_kind_lem k l p q e = sym (pick-again k p) ∙ ap pick_kind (beq_true (is_write k) (is_write l) e) ∙ pick-again l q

pub space-again : (s : Space) → space_of (space_number s) ≡ s
unfolding space_of space_number
space-again registers = refl
space-again eeprom = refl
space-again status = refl
space-again information = refl
space-again absent = refl

pub joining : (o : Open) (x : Step) → is_info o.last.kind ≡ false → is_info x.kind ≡ false → joins o x ≡ true → Joining o x
unfolding joins
joining o x plain plain₂ e =
    let c = o.last in
    let k = same_kind c.kind x.kind in
    let s = eqb (space_number c.space) (space_number x.space) in
    let a = eqb x.address (c.address + length c.elements * (row c.space).element) in
    let n = ltb (length c.elements) 127 in
    let p = and_true (k && s && a && n) (keeps_limits (commands_of (joined o x))) e in
    let q = and_true (k && s && a) n p.0 in
    let r = and_true (k && s) a q.0 in
    let t = and_true k s r.0 in
    let number : space_number c.space ≡ space_number x.space = eqb-true _ _ t.1 in
    record {
      kind = same_kind_lem _ _ plain plain₂ t.0;
      space = sym (space-again c.space) ∙ ap space_of number ∙ space-again x.space;
      address = eqb-true _ _ r.1;
      few = ltb-true _ _ q.1;
      limits = p.1;
    }

-- The open packet holds the records so far.
record Holding (o : Open) (xs : List Step) : Type 0 where
  before : SoundAll false o.before
  last : Sound (unlocked false (packet_steps o.before)) o.last
  increment : o.last.increment ≡ true
  limits : keeps_limits (commands_of o) ≡ true
  mixed : Mixed (packet_steps o.before ++ command_steps o.last) xs

-- the last command's steps are the packet's last
pub last-steps : (cs : List Command) (c : Command) → packet_steps (cs ++ (c ∷ [])) ≡ packet_steps cs ++ command_steps c
unfolding packet_steps
last-steps cs c = packet-steps_append cs (c ∷ []) ∙ simp append-nil

-- An open packet may be closed at any time.
kept : (o : Open) (xs : List Step) → Holding o xs → Kept (commands_of o) xs
unfolding commands_of keeps_limits
kept o xs h =
    let cs = commands_of o in
    let l = and_true (leb (length (bytes_of_packet cs)) limit) (leb (reply_bytes (packet_steps cs)) limit) h.limits in
    record {
      sound = sound-append h.before (SoundAll.more h.last SoundAll.none);
      short = leb-true _ _ l.0;
      reply = leb-true _ _ l.1;
      mixed = rw last-steps h.mixed;
    }

-- (a) the joined record is the last command's next step
module _ (o : Open) (x : Step) (j : Joining o x) where
  pub joined-steps : o.last.increment ≡ true → command_steps (joined o x).last ≡ command_steps o.last ++ (x ∷ [])
  unfolding command_steps joined
  joined-steps i = rw (j.kind, j.space, i) (element-steps_append x _ _ _ (rw j.space at j.address))

  joined-holds : (xs : List Step) → Element x → Holding o xs → Holding (joined o x) (xs ++ (x ∷ []))
  unfolding joined
  joined-holds xs e h =
      let c = h.last in
      let steps = joined-steps h.increment in
      record {
        before = h.before;
        last =
            record {
              plain = c.plain;
              present = c.present;
              some = simp length-append (omega arith);
              few = simp length-append (omega (arith, j.few));
              wide = wide-append x.bytes c.wide (rw (j.kind, j.space) e.wide);
              address = c.address;
              aligned = c.aligned;
              inside = rw steps (any_append past_end _ _ c.inside (any_one past_end x e.inside));
              allowed = rw steps (any_append barred _ _ c.allowed (any_one barred x e.allowed));
              unlocks = c.unlocks;
            };
        increment = h.increment;
        limits = j.limits;
        mixed = rw (steps, ← append_assoc) (mixed-append h.mixed (Mixed.same Mixed.none));
      }

-- The unlock command where it is needed, so that the record's command may follow.
record Readied (open? : Bool) (us : List Command) (x : Step) : Type 0 where
  sound : SoundAll open? us
  mixed : Mixed (packet_steps us) []
  unlocks : (is_write x.kind && (row x.space).locked && not (unlocked open? (packet_steps us))) ≡ false

unlock-sound : (open? : Bool) → Sound open? unlock_command
unfolding unlock_command is_absent is_info carried row_by area_row row misaligned command_steps element_steps any_step past_end barred is_write
unlock-sound open? =
    record {
      plain = refl;
      present = refl;
      some = omega arith;
      few = omega arith;
      wide = Wide.more refl Wide.none;
      address = omega arith;
      aligned = refl;
      inside = refl;
      allowed = refl;
      unlocks = refl;
    }

readied : (open? need : Bool) (x : Step) → (is_write x.kind && (row x.space).locked && not open?) ≡ need
    → Readied open? (cond need (unlock_command ∷ []) []) x
unfolding packet_steps command_steps element_steps unlock_command unlocked unlocked_after names_unlock is_status is_write number
readied open? false x e = record { sound = SoundAll.none; mixed = Mixed.none; unlocks = e }
readied open? true x e =
    record {
      sound = SoundAll.more (unlock-sound open?) SoundAll.none;
      mixed = Mixed.unlock refl refl Mixed.none;
      unlocks = and-false (is_write x.kind && (row x.space).locked);
    }

-- an element inside its space has an address of 16 bits
address_below : (x : Step) → Element x → x.address < 65536
unfolding past_end
address_below x e =
    let r = row_plain x.kind x.space e.plain in
    let inside : x.address + (row x.space).element ≤ (row x.space).bytes =
    rw r at (ltb-false (row_by x.kind x.space).bytes (x.address + (row_by x.kind x.space).element) e.inside) in
    omega (arith, bytes_le x.space, element_pos x.space e.present)

-- (b) the new command is sound, and its only step is the record
started-holds : (cs : List Command) (x : Step) (xs : List Step) → SoundAll false cs → Mixed (packet_steps cs) xs → Element x
    → keeps_limits (commands_of (started cs x)) ≡ true → Holding (started cs x) (xs ++ (x ∷ []))
unfolding started needs_unlock command_steps element_steps
started-holds cs x xs s m e l =
    let r = readied (unlocked false (packet_steps cs)) _ x refl in
    let m₂ = rw append-nil at (mixed-append m r.mixed) in
    record {
      before = sound-append s r.sound;
      last =
          record {
            plain = e.plain;
            present = e.present;
            some = omega arith;
            few = omega arith;
            wide = Wide.more e.wide Wide.none;
            address = address_below x e;
            aligned = e.aligned;
            inside = any_one past_end x e.inside;
            allowed = any_one barred x e.allowed;
            unlocks = rw (packet-steps_append, unlocked-append) r.unlocks;
          };
      increment = refl;
      limits = l;
      mixed = rw packet-steps_append (mixed-append m₂ (Mixed.same Mixed.none));
    }

-- the bytes of an unlock command, and of it with a new command and a packet's frame
unlock-bytes : (need : Bool) → length (bytes_of_packet (cond need (unlock_command ∷ []) [])) ≤ 6
unfolding bytes_of_packet unlock_command join_all
unlock-bytes true = simp (length-append, command-length) (omega arith)
unlock-bytes false = omega arith

new_bytes : (k : Kind) (s : Space) (a b : Bool) (n : ℕ) → n ≡ carried k s
    → length (bytes_of_packet (cond (is_write k && a && b) (unlock_command ∷ []) [])) + (4 + n) + 4 ≤ 2 * record_bytes k
unfolding is_write carried record_bytes bytes_of_packet
new_bytes read s a b n e = omega arith
new_bytes write s a b n e = omega (arith, unlock-bytes (a && b), carried_le write s)
new_bytes infoRead s a b n e = omega arith

-- A new command with its unlock and the frame of a packet has at most twice the bytes of the record in the list.
pub started-bytes : (cs : List Command) (x : Step) → length x.bytes ≡ carried x.kind x.space
    → length (bytes_of_packet (commands_of (started cs x))) + 4 ≤ length (bytes_of_packet cs) + 2 * record_bytes x.kind
unfolding commands_of started needs_unlock bytes_of_packet join_all
started-bytes cs x w =
    let n = new_bytes x.kind x.space (row x.space).locked (not (unlocked false (packet_steps cs))) _ w in
    simp (packet-bytes_append, length-append, command-length) (omega arith)

-- the reply of a packet of one record
pub unlock-reply : (need : Bool) → reply_bytes (packet_steps (cond need (unlock_command ∷ []) [])) ≡ 0
unfolding reply_bytes packet_steps command_steps element_steps unlock_command answered
unlock-reply true = refl
unlock-reply false = refl

pub record_bytes_le : (k : Kind) → (6 ≤ record_bytes k) × (record_bytes k ≤ 10)
unfolding record_bytes
record_bytes_le k = go (is_write k)
  where
    go : (b : Bool) → (6 ≤ cond b 10 6) × (cond b 10 6 ≤ 10)
    go true = omega arith
    go false = omega arith

fresh-reply : (x : Step) → reply_bytes (packet_steps (commands_of (started [] x))) ≤ limit
unfolding commands_of started command_steps element_steps reply_bytes
fresh-reply x = rw (last-steps, reply-append, unlock-reply) (omega (arith, answered_le x.kind x.space))

-- a packet of one record keeps the limits
fresh-limits : (x : Step) → length x.bytes ≡ carried x.kind x.space → keeps_limits (commands_of (started [] x)) ≡ true
unfolding keeps_limits bytes_of_packet
fresh-limits x w =
    let bytes = length (bytes_of_packet (commands_of (started [] x))) in
    let short : bytes ≤ limit = omega (arith, started-bytes [] x w, record_bytes_le x.kind) in
    rw (le-leb bytes limit short) (le-leb _ limit (fresh-reply x))

-- (c), and the first record
fresh_holds : (x : Step) → Element x → Holding (started [] x) (x ∷ [])
unfolding packet_steps
fresh_holds x e = started-holds [] x [] SoundAll.none Mixed.none e (fresh-limits x e.wide)

-- What holds of a turn by (a), by (b) and by (c) holds of every turn.
pub turn-cases : (o : Open) (x : Step) (P : Turn → Type 0)
    → (joins o x ≡ true → P (record { closed = []; open? = joined o x }))
    → (keeps_limits (commands_of (started (commands_of o) x)) ≡ true
    → P (record { closed = []; open? = started (commands_of o) x }))
    → P (record { closed = commands_of o ∷ []; open? = started [] x }) → P (turn o x)
unfolding turn turn_by
turn-cases o x P a b c = go (joins o x) (keeps_limits (commands_of (started (commands_of o) x))) refl refl
  where
    go : (j l : Bool) → joins o x ≡ j → keeps_limits (commands_of (started (commands_of o) x)) ≡ l → P (turn_by j l o x)
    go true l p q = a p
    go false true p q = b q
    go false false p q = c

-- the open packet's records and those still to come
pack_from_lem : (o : Open) (xs : List Step) {ys : List Step} → Holding o xs → Good ys → Packed (pack_from o ys) (xs ++ ys)
unfolding pack_from
pack_from_lem o xs h Good.none = Packed.more (kept o xs h) Packed.none
pack_from_lem o xs h (Good.more {x} {xs = ys} bad p w g) =
    let e = element x bad p w in
    let k = kept o xs h in
    turn-cases o x (λ t. Packed (t.closed ++ pack_from t.open? ys) (xs ++ (x ∷ ys)))
    (λ j. rw (← append_snoc) (pack_from_lem (joined o x) _ (joined-holds o x (joining o x h.last.plain p j) xs e h) g))
    (λ l. rw (← append_snoc) (pack_from_lem _ _ (started-holds (commands_of o) x xs k.sound k.mixed e l) g))
    (Packed.more k (pack_from_lem _ _ (fresh_holds x e) g))

-- The packing rule's packets hold the records.
pub packing_keeps : (xs : List Step) → Good xs → Packed (packets xs) xs
unfolding packets
packing_keeps [] g = Packed.none
packing_keeps (x ∷ xs) (Good.more bad p w g) = pack_from_lem _ (x ∷ []) (fresh_holds x (element x bad p w)) g
