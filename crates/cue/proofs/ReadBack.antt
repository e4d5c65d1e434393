-- Reading back: the check of a packet that is made of sound commands accepts it and finds the commands' steps.
use Prim.Native.Nat.{ℕ, zero, suc, ◌+◌, ◌*◌, ◌≤◌}
use mathlib.Core.Path.{◌≡◌, refl, sym, ◌∙◌}
use mathlib.Core.List.{List, [], ◌∷◌, ◌++◌, append_assoc, append-nil}
use mathlib.Core.Bool.{Bool, false}
use lib.ListN.{length, drop, length-append}
use lib.Seq.{take_at, drop_at}
use native.Mathlib.Nat.{zero-mul, suc-mul}
use native.Mathlib.Omega.{arith}
use Rattle.lbp16.specs.Space.{Space, registers, eeprom, status, information, absent, space_of, space_number, is_absent, row}
use Rattle.lbp16.specs.Word.{word_of}
use Rattle.lbp16.specs.declared.pointer.Pointers.{Pointers}
use Rattle.lbp16.proofs.WordLaws.{InRange, fields-of_word, word_below}
use Rattle.packet.specs.Bytes.{bytes_of}
use Rattle.packet.specs.Step.{Kind, read, write, infoRead, is_info, carried, unlocked, reply_bytes}
use Rattle.packet.specs.Command.{limit, fields_at, kind_of, row_of, command_bytes}
use Rattle.packet.specs.Command.{header_bytes, address_used, stride, payload, elements, handed, steps_at}
use Rattle.packet.specs.Judge.{Carried, accepted, begin, carry, judge_from, judge}
use Rattle.packet.proofs.ByteLaws.{length-bytes}
use Rattle.packet.proofs.StepLaws.{unlocked-append, reply-append, pick-again, row_plain}
use Rattle.packet.proofs.CommandLaws.{fields-at_front, address-given, reply-of_command}
use Rattle.packet.proofs.JudgeLaws.{PassedNext, judged-end, judged-past, pointers-kept}
use Rattle.cue.specs.Packing.{Command, command_fields, join_all, bytes_of_command, bytes_of_packet}
use Rattle.cue.specs.Packing.{element_steps, command_steps, packet_steps}
use Rattle.cue.proofs.Relations.{Wide, Sound, SoundAll, Does}

-- a space and a kind are found again by what a command's word says of them
pub space-back : (s : Space) → is_absent s ≡ false → space_of (space_number s) ≡ s
unfolding space_of space_number is_absent
space-back registers e = refl
space-back eeprom e = refl
space-back status e = refl
space-back information e = refl
space-back absent e = let z : ◌≡◌ {A = ℕ} 0 1 = cc in absurd (omega arith)

kind-back : (c : Command) → is_info c.kind ≡ false → kind_of (command_fields c) ≡ c.kind
unfolding kind_of command_fields
kind-back c p = pick-again c.kind p

-- the table's line for a command is its space's
row_back : (c : Command) → is_info c.kind ≡ false → is_absent c.space ≡ false → row_of (command_fields c) ≡ row c.space
unfolding row_of command_fields
row_back c p e = rw (kind-back c p, space-back c.space e) (row_plain _ _ p)

-- the bytes of elements, joined, and the steps that are read from them
pub length-joined : {n : ℕ} {es : List (List ℕ)} → Wide n es → length (join_all es) ≡ length es * n
unfolding join_all
length-joined Wide.none = rw zero-mul
length-joined (Wide.more e w) = rw (length-append, e, length-joined w, suc-mul) (omega arith)

payload-back : (k : Kind) (s : Space) (e more : List ℕ) → is_info k ≡ false → length e ≡ carried k s
    → payload k s (e ++ more) ≡ e
unfolding payload carried is_info
payload-back read s [] more p l = refl
payload-back read s (b ∷ e) more p l = absurd (omega arith)
payload-back write s e more p l = take_at e more _ l
payload-back infoRead s e more p l = let z : ◌≡◌ {A = ℕ} 0 1 = cc in absurd (omega arith)

elements-back : (k : Kind) (s : Space) (a d : ℕ) (more : List ℕ) {es : List (List ℕ)} → is_info k ≡ false → Wide (carried k s) es
    → elements k s (length es) a d (join_all es ++ more) ≡ element_steps k s a d es
unfolding elements element_steps join_all
elements-back k s a d more p Wide.none = refl
elements-back k s a d more p (Wide.more {e} {es} l w) =
    rw (append_assoc, payload-back k s e _ p l, drop_at e _ _ l, elements-back k s (a + d) d more p w)

-- a command's word can be written
row-in_range : (s : Space) → (space_number s ≤ 7) × ((row s).size ≤ 3)
unfolding space_number row
row-in_range registers = omega arith
row-in_range eeprom = omega arith
row-in_range status = omega arith
row-in_range information = omega arith
row-in_range absent = omega arith

-- word and address are four bytes
long : (c : Command) → 4 ≤ length (bytes_of_command c)
unfolding bytes_of_command
long c = simp (length-append, length-bytes) (omega arith)

-- One sound command, with any bytes after it: fields, address, data and steps are read back.
module _ {open? : Bool} (c : Command) (h : Sound open? c) (more : List ℕ) where
  parts : bytes_of_command c ++ more
      ≡ bytes_of 2 (word_of (command_fields c)) ++ (bytes_of 2 c.address ++ (join_all c.elements ++ more))
  unfolding bytes_of_command
  parts = simp append_assoc

  in_range_lem : InRange (command_fields c)
  unfolding command_fields
  in_range_lem = record { space = (row-in_range c.space).0; size = (row-in_range c.space).1; count = h.few }

  fields_back : fields_at (bytes_of_command c ++ more) ≡ command_fields c
  fields_back =
      rw (parts, fields-at_front _ (bytes_of 2 c.address ++ (join_all c.elements ++ more)) (word_below _ in_range_lem))
      (fields-of_word _ in_range_lem)

  address-back : (p : Pointers) → address_used p (command_fields c) (bytes_of_command c ++ more) ≡ c.address
  unfolding command_fields
  address-back p = rw parts (address-given p (command_fields c) _ c.address _ refl h.address)

  data_back : drop 4 (bytes_of_command c ++ more) ≡ join_all c.elements ++ more
  unfolding bytes_of_command
  data_back =
      let header = bytes_of 2 (word_of (command_fields c)) ++ bytes_of 2 c.address in
      rw (append_assoc header) (drop_at header _ 4 (simp (length-append, length-bytes)))

  steps_back : (p : Pointers) → steps_at p (command_fields c) (bytes_of_command c ++ more) ≡ command_steps c
  unfolding steps_at command_steps command_fields stride handed header_bytes
  steps_back p =
      rw (address-back p, row_back c h.plain h.present, kind-back c h.plain, h.plain, space-back c.space h.present, data_back)
      (elements-back _ _ _ _ more h.plain h.wide)

  -- its length, and what remains after it
  length_back : command_bytes (command_fields c) ≡ length (bytes_of_command c)
  unfolding command_bytes bytes_of_command command_fields header_bytes
  length_back =
      simp (length-append, length-bytes, kind-back c h.plain, space-back c.space h.present, length-joined h.wide)

  remains : drop (command_bytes (command_fields c)) (bytes_of_command c ++ more) ≡ more
  remains = drop_at (bytes_of_command c) more _ (sym length_back)

  length-all : length (bytes_of_command c ++ more) ≡ command_bytes (command_fields c) + length more
  length-all = rw (length-append, length_back)

  -- no rule refuses it
  passes-next : (k : Carried) → unlocked false k.steps ≡ open?
      → reply_bytes k.steps + reply_bytes (command_steps c) ≤ limit → PassedNext k (bytes_of_command c ++ more)
  unfolding command_fields header_bytes command_bytes
  passes-next k u l =
      let s = space-back c.space h.present in
      let r = row_back c h.plain h.present in
      let sum = length-all in
      let steps = steps_back k.pointers in
      rw fields_back
      record {
        header = omega arith;
        served = refl;
        present = rw s h.present;
        sized = rw r;
        some = h.some;
        aligned = rw (address-back k.pointers, r) h.aligned;
        inside = rw steps h.inside;
        allowed = rw steps h.allowed;
        unlocks = rw (r, u) h.unlocks;
        whole = omega arith;
        answers = rw (← reply-of_command k.pointers (command_fields c) (bytes_of_command c ++ more), steps) l;
      }

  -- the check goes on behind the command, with the command's steps
  judged-on : (fuel : ℕ) (k : Carried) → unlocked false k.steps ≡ open?
      → reply_bytes k.steps + reply_bytes (command_steps c) ≤ limit
      → judge_from (suc fuel) k (bytes_of_command c ++ more) ≡ judge_from fuel (carry k (bytes_of_command c ++ more)) more
  judged-on fuel k u l =
      let some : 1 ≤ length (bytes_of_command c ++ more) = rw length-append (omega (arith, long c)) in
      judged-past fuel k (bytes_of_command c ++ more) some (passes-next k u l) ∙ rw (fields_back, remains)

  steps_on : (k : Carried) → (carry k (bytes_of_command c ++ more)).steps ≡ k.steps ++ command_steps c
  unfolding carry
  steps_on k = rw (fields_back, steps_back k.pointers)

-- From any place of a packet on, with fuel enough, the rest of its commands are accepted and add their steps.
from_place : (fuel : ℕ) (k : Carried) {open? : Bool} {cs : List Command} → SoundAll open? cs
    → unlocked false k.steps ≡ open? → length (bytes_of_packet cs) ≤ fuel
    → reply_bytes k.steps + reply_bytes (packet_steps cs) ≤ limit
    → (end : Carried) × (judge_from fuel k (bytes_of_packet cs) ≡ accepted end) × (end.steps ≡ k.steps ++ packet_steps cs)
unfolding bytes_of_packet packet_steps
from_place fuel k SoundAll.none u f l = (k, judged-end fuel k, sym (append-nil k.steps))
from_place zero k (SoundAll.more {c = c} {cs = cs} h hs) u f l =
    absurd (omega (arith, long c, length-append (bytes_of_command c) (bytes_of_packet cs)))
from_place (suc fuel) k (SoundAll.more {c = c} {cs = cs} h hs) u f l =
    let more = bytes_of_packet cs in
    let next = carry k (bytes_of_command c ++ more) in
    let steps = steps_on c h more k in
    let bytes = length-append (bytes_of_command c) more in
    let reply = reply-append (command_steps c) (packet_steps cs) in
    let small : reply_bytes next.steps + reply_bytes (packet_steps cs) ≤ limit = rw (steps, reply-append) (omega arith) in
    let (end, e, s) = from_place fuel next hs (rw (steps, unlocked-append, u)) (omega (arith, long c)) small in
    (end, judged-on c h more fuel k u (omega arith) ∙ e, s ∙ rw (steps, append_assoc))

-- A packet of sound commands that keeps both limits is accepted from any pointers whatever, and does its commands' steps.
pub read-from : (cs : List Command) → SoundAll false cs → reply_bytes (packet_steps cs) ≤ limit → (p : Pointers)
    → (end : Carried) × (judge p (bytes_of_packet cs) ≡ accepted end) × (end.steps ≡ packet_steps cs)
unfolding judge begin unlocked reply_bytes
read-from cs h l p = from_place (length (bytes_of_packet cs)) (begin p) h refl (omega arith) (omega arith)

pub read_back_lem : (cs : List Command) → SoundAll false cs → length (bytes_of_packet cs) ≤ limit
    → reply_bytes (packet_steps cs) ≤ limit → Does (bytes_of_packet cs) (packet_steps cs)
read_back_lem cs h short l =
    record {
      short = short;
      judged = λ p below.
          let (end, e, s) = read-from cs h l p in (end, e, s, pointers-kept p (bytes_of_packet cs) end below e);
    }
