-- What the program writes fits its room.
use Prim.Native.Nat.{ℕ, ◌^◌, ◌≤◌, ◌<◌}
use mathlib.Core.List.{List, [], ◌++◌}
use mathlib.Core.Bool.{Bool, true, false, ◌&&◌, cond}
use native.Mathlib.Omega.{arith}
use lib.Dec.{eqb, ltb}
use lib.ListN.{length, take, drop, length-append, length-take}
use Rattle.lbp16.specs.Space.{space_of, row}
use Rattle.lbp16.proofs.SpaceLaws.{bytes_le, element_le}
use Rattle.packet.specs.Bytes.{number}
use Rattle.cue.specs.Records.{record_at}
use Rattle.cue.specs.declared.records.Record.{Record}
use Rattle.text.specs.Number.{ascii}
use Rattle.text.specs.Line.{numbered, too_long_line}
use Rattle.text.proofs.HexLaws.{hex_length, bytes-length}
use Rattle.text.proofs.LineLaws.{cond-length, numbered-length}
use Rattle.space_text.proofs.SpaceTextLaws.{space-size}
use Rattle.list_reason.specs.ListReason.{ListWhy}
use Rattle.cuewhy_output.specs.Wording.{upper_digits, value_text, record_text, mark_text, cut_text, named_text, element_text, wide_text}
use Rattle.cuewhy_output.specs.Wording.{bad_text, fault_text, place_text, refused_text, accepted_text}
use Rattle.cuewhy_output.specs.Said.{usage_line}

-- a record in words
upper-few : (n upper : ℕ) → upper_digits n upper ≤ 4
unfolding upper_digits
upper-few n upper = go (eqb (row (space_of n)).element 2 && eqb upper 0)
  where
    go : (b : Bool) → cond b 0 4 ≤ 4
    go true = omega arith
    go false = omega arith

value-size : (n : ℕ) (rest : List ℕ) → length (value_text n rest) ≤ 11
unfolding value_text ascii
value-size n rest =
    let few = upper-few n (number (take 2 (drop 8 rest))) in simp (length-append, hex_length) (omega arith)

record_size : (r : Record) (rest : List ℕ) → r.space < 256 → length (record_text r rest) ≤ 50
unfolding record_text ascii
record_size r rest h =
    let kind = cond-length 6 r.write (ascii "write ") (ascii "read ") (omega arith) (omega arith) in
    let space = space-size r.space h in
    let value = cond-length 11 r.write (value_text r.space rest) [] (value-size r.space rest) (omega arith) in
    simp (length-append, hex_length) (omega arith)

-- what is wrong with it
mark-size : (place : ℕ) (rest : List ℕ) → length (mark_text place rest) ≤ 80
unfolding mark_text ascii
mark-size place rest =
    let two : length (take 2 rest) ≤ 2 = rw length-take (omega arith) in
    let before = cond-length 50 (eqb place 0) [] (ascii "; the record before may be one of the wrong length") (omega arith) (omega arith) in
    simp (length-append, bytes-length) (omega arith)

cut-size : (r : Record) (rest : List ℕ) → length rest < 2 ^ 64 → length (cut_text r rest) ≤ 80
unfolding cut_text ascii
cut-size r rest h =
    let kind = cond-length 16 r.write (ascii "write: cut off, ") (ascii "read: cut off, ") (omega arith) (omega arith) in
    let left = numbered-length (cond r.write (ascii "write: cut off, ") (ascii "read: cut off, ")) (length rest) h in
    let of = cond-length 17 r.write (ascii " bytes left of 10") (ascii " bytes left of 6") (omega arith) (omega arith) in
    cond-length 80 (ltb (length rest) 2) (ascii "record: cut off, 1 byte left of 6 or 10") _ (omega arith)
    (simp length-append (omega arith))

named-size : (r : Record) (cause : ℕ) → length (named_text r cause) ≤ 60
unfolding named_text ascii
named-size r cause =
    cond-length 60 (eqb cause 1) (ascii "the card has no such space") _ (omega arith)
    (cond-length 60 (eqb cause 4) (cond (eqb r.space 2) (ascii "read-only below 0x20") (ascii "the space is read-only")) _
    (cond-length 60 (eqb r.space 2) (ascii "read-only below 0x20") (ascii "the space is read-only") (omega arith) (omega arith))
    (cond-length 60 (eqb cause 5) (ascii "the unlock cell, which no list may name") (ascii "the packet count, which no list may name")
    (omega arith)
    (omega arith)))

element-size : (r : Record) (cause : ℕ) → length (element_text r cause) ≤ 60
unfolding element_text ascii
element-size r cause =
    let s = row (space_of r.space) in
    let a = numbered-length (ascii "address not a multiple of ") s.element (omega (arith, element_le (space_of r.space))) in
    let b = numbered-length (ascii "past the end: the space has ") s.bytes (omega (arith, bytes_le (space_of r.space))) in
    cond-length 60 (eqb cause 2) (numbered (ascii "address not a multiple of ") s.element) _ (omega arith)
    (cond-length 60 (eqb cause 3) (numbered (ascii "past the end: the space has ") s.bytes ++ ascii " bytes") (named_text r cause)
    (rw length-append (omega arith))
    (named-size r cause))

wide-size : (cause : ℕ) → length (wide_text cause) ≤ 60
unfolding wide_text ascii
wide-size cause = cond-length 60 (eqb cause 1) (ascii "spare byte not 0") (ascii "value above 0xFFFF") (omega arith) (omega arith)

module _ (w : ListWhy) (r : Record) (rest : List ℕ) (h : r.space < 256) where
  bad-size : length (bad_text w r rest) ≤ 112
  unfolding bad_text ascii
  bad-size =
      let a = record_size r rest h in
      let b = cond-length 60 (eqb w.number 23) (element_text r w.cause) (wide_text w.cause) (element-size r w.cause) (wide-size w.cause) in
      simp length-append (omega arith)

  fault-size : length rest < 2 ^ 64 → length (fault_text w r rest) ≤ 112
  unfolding fault_text ascii
  fault-size l =
      let mark = mark-size w.place rest in
      let cut = cut-size r rest l in
      cond-length 112 (eqb w.number 21) (ascii "a list has at most 100,000 records") _ (omega arith)
      (cond-length 112 (eqb w.number 22) (cond (eqb w.cause 1) (mark_text w.place rest) (cut_text r rest)) (bad_text w r rest)
      (cond-length 112 (eqb w.cause 1) (mark_text w.place rest) (cut_text r rest) (omega arith) (omega arith))
      bad-size)

place-size : (w : ListWhy) → w.number < 2 ^ 64 → w.place < 2 ^ 64 → w.offset < 2 ^ 64 → length (place_text w) ≤ 82
unfolding place_text ascii
place-size w h k l =
    let a = numbered-length (ascii "refused ") w.number h in
    let b = numbered-length (ascii " at ") w.place k in
    let c = numbered-length (ascii " (byte ") w.offset l in
    simp length-append (omega arith)

-- the three lines
pub refused-size : (w : ListWhy) (rest : List ℕ) → w.number < 2 ^ 64 → w.place < 2 ^ 64 → w.offset < 2 ^ 64 → length rest < 2 ^ 64
    → (record_at rest).space < 256 → length (refused_text w rest) ≤ 256
unfolding refused_text ascii
refused-size w rest h k l m n =
    let a = place-size w h k l in
    let b = fault-size w (record_at rest) rest n m in
    simp length-append (omega arith)

pub accepted-size : (n : ℕ) → n < 2 ^ 64 → length (accepted_text n) ≤ 256
unfolding accepted_text ascii
accepted-size n h =
    let a = numbered-length (ascii "accepted, ") n h in
    let b = cond-length 9 (eqb n 1) (ascii " record\n") (ascii " records\n") (omega arith) (omega arith) in
    simp length-append (omega arith)

pub usage_size : length usage_line ≤ 256
unfolding usage_line ascii
usage_size = omega arith

pub too_long-size : length too_long_line ≤ 256
unfolding too_long_line ascii
too_long-size = omega arith
