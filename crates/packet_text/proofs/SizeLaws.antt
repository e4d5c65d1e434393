-- How many bytes the words of a refusal have at most.
use Prim.Native.Nat.{ℕ, zero, suc, ◌+◌, ◌-◌, ◌*◌, ◌≤◌, ◌<◌}
use mathlib.Core.Path.{◌≡◌, refl, ap, sym}
use mathlib.Core.List.{List, ◌++◌}
use mathlib.Core.Bool.{Bool, true, false, ◌&&◌, cond}
use native.Mathlib.Omega.{arith}
use borrow.Author.Tests.{le-ltb, ltb-false}
use lib.Dec.{eqb, ltb}
use lib.ListN.{length, drop, length-append, length-take, length-drop}
use Rattle.lbp16.specs.Word.{fields_of}
use Rattle.lbp16.specs.declared.word.Fields.{Fields}
use Rattle.lbp16.specs.declared.pointer.Pointers.{Pointers}
use Rattle.packet.specs.Command.{limit, fields_at, header_bytes, command_bytes}
use Rattle.packet.specs.Judge.{Verdict, refused, accepted, judge}
use Rattle.packet.proofs.RefusalLaws.{RefusedAt, refused-in_table}
use Rattle.card.specs.Run.{bad_state, checked_packet}
use Rattle.text.specs.Number.{ascii, hexadecimal}
use Rattle.text.proofs.HexLaws.{hex_length, bytes-length}
use Rattle.text.proofs.LineLaws.{cond-length, numbered-length}
use Rattle.sentence.specs.Sentence.{sentence_of}
use Rattle.sentence.proofs.TableLaws.{sentence-short}
use Rattle.reason.specs.Reason.{commands_from, commands_before, unnamed, named, reason_of, explained}
use Rattle.reason.specs.declared.Reason.{Reason}
use Rattle.reason.proofs.ReasonLaws.{explained-bad, explained-fine}
use Rattle.packet_text.specs.Wording.{rule_text, refused_text, element_bytes, kind_text, fields_text, address_digits, address_text}
use Rattle.packet_text.specs.Wording.{described_text, last_place, bytes_named, command_shown, span_text, command_text}

-- No sentence is above 100 bytes.
rule_short : (n : ℕ) → length (rule_text n) ≤ 100
unfolding rule_text ascii
rule_short n =
    cond-length 100 (eqb n 1) (ascii "the store is not whole, or a pointer stands above the size of its space or info area") (sentence_of n)
    (omega arith)
    (sentence-short n)

-- The numbers that a reason may hold.
pub record Small (packet : List ℕ) (r : Reason) : Type 0 where
  pub number : r.number ≤ 12
  pub place : r.place ≤ 1472
  pub index : r.index ≤ 1472
  pub space : r.fields.space < 8
  pub count : r.fields.count < 128
  pub short : 3 ≤ r.number → length packet ≤ 1472

commands_few : (fuel n : ℕ) (rest : List ℕ) → commands_from fuel n rest ≤ fuel
unfolding commands_from
commands_few zero n rest = omega arith
commands_few (suc fuel) zero rest = omega arith
commands_few (suc fuel) (suc n) rest =
    let k = command_bytes (fields_at rest) in
    let h = commands_few fuel (suc n - k) (drop k rest) in
    omega arith

-- fields are those of some word
module _ (P : Fields → Type 0) (all : (w : ℕ) → P (fields_of w)) where
  fields-some : (rest : List ℕ) → P (fields_at rest)
  unfolding fields_at
  fields-some rest = go (ltb (length rest) 2) _
    where
      go : (b : Bool) (w : ℕ) → P (cond b (fields_of 0) (fields_of w))
      go true w = all 0
      go false w = all w

space-few : (w : ℕ) → (fields_of w).space < 8
unfolding fields_of
space-few w = omega arith

count-few : (w : ℕ) → (fields_of w).count < 128
unfolding fields_of
count-few w = omega arith

pub count_at : (rest : List ℕ) → (fields_at rest).count < 128
count_at rest = fields-some (λ f. f.count < 128) count-few rest

unnamed-small : (packet : List ℕ) (n : ℕ) → n < 3 → Small packet (unnamed n 0)
unfolding unnamed
unnamed-small packet n l =
    record {
      number = omega arith;
      place = omega arith;
      index = omega arith;
      space = space-few 0;
      count = count-few 0;
      short = λ h. absurd (omega arith);
    }

-- of packet and pointers alone, and of the card
module _ (packet : List ℕ) (p : Pointers) where
  pub small-alone : Small packet (reason_of p packet (checked_packet p packet))
  unfolding checked_packet reason_of named commands_before
  small-alone = by_length (ltb limit (length packet)) refl
    where
      at : length packet ≤ limit → (n place : ℕ) → RefusedAt p packet n place → Small packet (reason_of p packet (refused n place))
      at short n place r =
          let three = r.in_table.0 in
          let twelve = r.in_table.1 in
          let some : 1 ≤ length (drop place packet) = rw r.from_place r.some in
          let within : 1 ≤ length packet - place = rw (length-drop place packet) at some in
          rw (le-ltb n 3 three) (record {
            number = twelve;
            place = omega arith;
            index = omega (arith, commands_few place place packet);
            space = fields-some (λ f. f.space < 8) space-few (drop place packet);
            count = count_at (drop place packet);
            short = λ _. short;
          })

      go : length packet ≤ limit → (v : Verdict) → judge p packet ≡ v → Small packet (reason_of p packet v)
      go short (accepted c) q = unnamed-small packet 0 (omega arith)
      go short (refused n place) q = at short n place (refused-in_table p packet n place q)

      by_length : (b : Bool) → ltb limit (length packet) ≡ b → Small packet (reason_of p packet (cond b (refused 2 0) (judge p packet)))
      by_length true q = unnamed-small packet 2 (omega arith)
      by_length false q = go (ltb-false limit (length packet) q) (judge p packet) refl

pub small : (packet store : List ℕ) (p : Pointers) → Small packet (explained packet store p)
small packet store p = go (bad_state store p) refl
  where
    go : (b : Bool) → bad_state store p ≡ b → Small packet (explained packet store p)
    go true q = rw (← explained-bad packet store p q) (unnamed-small packet 1 (omega arith))
    go false q = rw (← explained-fine packet store p q) (small-alone packet p)

pub address-few : (n : ℕ) → length (hexadecimal (address_digits n) n) ≤ 5
unfolding address_digits
address-few n = rw hex_length (go (ltb n 65536))
  where
    go : (b : Bool) → cond b 4 5 ≤ 5
    go true = omega arith
    go false = omega arith

pub kind-few : (f : Fields) → length (kind_text f) ≤ 10
unfolding kind_text ascii
kind-few f =
    let i = f.info in
    cond-length 10 f.write (cond i (ascii "info write") (ascii "write")) (cond i (ascii "info read") (ascii "read"))
    (cond-length 10 i (ascii "info write") (ascii "write") (omega arith) (omega arith))
    (cond-length 10 i (ascii "info read") (ascii "read") (omega arith) (omega arith))

pub element-few : (code : ℕ) → element_bytes code ≤ 8
unfolding element_bytes
element-few code = go (eqb code 0) (eqb code 1) (eqb code 2)
  where
    go : (a b c : Bool) → cond a 1 (cond b 2 (cond c 4 8)) ≤ 8
    go true b c = omega arith
    go false true c = omega arith
    go false false true = omega arith
    go false false false = omega arith

-- What a command's own word asks for, as the code adds it up.
pub write-names : (f : Fields) (header element : ℕ) → f.write ≡ true → header ≡ header_bytes f
    → element ≡ element_bytes f.size → header + f.count * element ≡ bytes_named f
unfolding bytes_named
write-names f header element w h e = rw (h, e) (ap (λ b. header_bytes f + cond b (f.count * element_bytes f.size) 0) (sym w))

pub read_names : (f : Fields) (header : ℕ) → f.write ≡ false → header ≡ header_bytes f → header ≡ bytes_named f
unfolding bytes_named
read_names f header w h =
    let q : cond f.write (f.count * element_bytes f.size) 0 ≡ 0 = rw w refl in
    omega arith

module _ (packet : List ℕ) (r : Reason) (s : Small packet r) where
  pub refused-size : length (refused_text r) ≤ 155
  unfolding refused_text ascii
  refused-size =
      let a = numbered-length (ascii "refused ") r.number (omega (arith, s.number)) in
      let b = numbered-length (ascii " at ") r.place (omega (arith, s.place)) in
      let c = rule_short r.number in
      simp length-append (omega arith)

  fields-size : length (fields_text r.fields) ≤ 118
  unfolding fields_text ascii
  fields-size =
      let a = kind-few r.fields in
      let b = numbered-length (ascii ", space ") r.fields.space (omega (arith, s.space)) in
      let c = numbered-length (ascii ", ") (element_bytes r.fields.size) (omega (arith, element-few r.fields.size)) in
      let d = cond-length 28 r.fields.increment (ascii "-byte elements, increment") (ascii "-byte elements, no increment")
      (omega arith) (omega arith) in
      let e = numbered-length (ascii ", count ") r.fields.count (omega (arith, s.count)) in
      simp length-append (omega arith)

  address-size : (n : ℕ) → length (address_text n r) ≤ 37
  unfolding address_text ascii
  address-size n =
      let a = address-few r.address in
      let b = cond-length 30 r.fields.address (ascii ", address 0x") (ascii ", address from the pointer (0x") (omega arith)
      (omega arith) in
      let c = cond-length 2 r.fields.address (ascii "\n") (ascii ")\n") (omega arith) (omega arith) in
      cond-length 37 (r.fields.address && ltb n 4) (ascii ", address cut off\n")
      (cond r.fields.address (ascii ", address 0x") (ascii ", address from the pointer (0x")
      ++ hexadecimal (address_digits r.address) r.address
      ++ cond r.fields.address (ascii "\n") (ascii ")\n"))
      (omega arith) (simp length-append (omega arith))

  described_size : (n : ℕ) → length (described_text n r) ≤ 157
  unfolding described_text ascii
  described_size n =
      let a = fields-size in
      let b = address-size n in
      cond-length 157 (ltb n 2) (ascii ": word cut off\n") (ascii ": " ++ fields_text r.fields ++ address_text n r) (omega arith)
      (simp length-append (omega arith))

  span-size : (last : ℕ) → last ≤ 18446744073709551615 → length (span_text r last) ≤ 80
  unfolding span_text ascii
  span-size last l =
      let a = numbered-length (ascii "command ") r.index (omega (arith, s.index)) in
      let b = numbered-length (ascii ", bytes ") r.place (omega (arith, s.place)) in
      let c = numbered-length (ascii " to ") last (omega arith) in
      simp length-append (omega arith)

  pub command-size : 3 ≤ r.number → length (command_text packet r) ≤ 4654
  unfolding command_text ascii last_place command_shown
  command-size three =
      let a = span-size (last_place r.place (length (command_shown packet r))) (omega arith) in
      let d = described_size (length (drop r.place packet)) in
      let e = shown-few in
      let f = bytes-length (command_shown packet r) in
      simp length-append (omega arith)
    where
      shown-few : length (command_shown packet r) ≤ 1472
      shown-few = rw (length-take, length-drop) (omega (arith, s.short three))
