-- What is wrong with a list, in words: a line for it.
use Rattle.std.specs.Prelude.{ℕ, List, [], ◌++◌, ◌&&◌, cond, length, take, drop, eqb, ltb}
use Rattle.lbp16.specs.Space.{space_of, row}
use Rattle.packet.specs.Bytes.{number}
use Rattle.cue.specs.Records.{record_at}
use Rattle.cue.specs.declared.records.Record.{Record}
use Rattle.text.specs.Number.{ascii, hexadecimal, bytes_of_hex}
use Rattle.text.specs.Line.{numbered}
use Rattle.space_text.specs.SpaceText.{space_text}
use Rattle.list_reason.specs.ListReason.{ListWhy}

-- A write's value has as many digits as its element, and eight where it is wider or the card has no such space: the upper half is
-- left out where a 2-byte element has room for the value.
unfoldable pub upper_digits : ℕ → ℕ → ℕ
upper_digits space upper = cond (eqb (row (space_of space)).element 2 && eqb upper 0) 0 4

unfoldable pub value_text : ℕ → List ℕ → List ℕ
value_text space rest =
    let upper = number (take 2 (drop 8 rest)) in
    ascii " 0x" ++ hexadecimal (upper_digits space upper) upper ++ hexadecimal 4 (number (take 2 (drop 6 rest)))

-- The record in words, from the list's bytes from it on.
unfoldable pub record_text : Record → List ℕ → List ℕ
record_text r rest =
    cond r.write (ascii "write ") (ascii "read ")
    ++ space_text r.space
    ++ ascii " 0x"
    ++ hexadecimal 4 r.address
    ++ cond r.write (value_text r.space rest) []

-- Of 22: a mark that is unknown, and a record that is cut.
unfoldable pub mark_text : ℕ → List ℕ → List ℕ
mark_text place rest =
    ascii "mark" ++ bytes_of_hex (take 2 rest) ++ ascii ": neither RD nor WR"
    ++ cond (eqb place 0) [] (ascii "; the record before may be one of the wrong length")

unfoldable pub cut_text : Record → List ℕ → List ℕ
cut_text r rest =
    cond (ltb (length rest) 2) (ascii "record: cut off, 1 byte left of 6 or 10")
    (numbered (cond r.write (ascii "write: cut off, ") (ascii "read: cut off, ")) (length rest)
    ++ cond r.write (ascii " bytes left of 10") (ascii " bytes left of 6"))

-- Of 23, by its cause: those with a number of the space's, and the others.
unfoldable pub named_text : Record → ℕ → List ℕ
named_text r cause =
    cond (eqb cause 1) (ascii "the card has no such space")
    (cond (eqb cause 4) (cond (eqb r.space 2) (ascii "read-only below 0x20") (ascii "the space is read-only"))
    (cond (eqb cause 5) (ascii "the unlock cell, which no list may name") (ascii "the packet count, which no list may name")))

unfoldable pub element_text : Record → ℕ → List ℕ
element_text r cause =
    let s = row (space_of r.space) in
    cond (eqb cause 2) (numbered (ascii "address not a multiple of ") s.element)
    (cond (eqb cause 3) (numbered (ascii "past the end: the space has ") s.bytes ++ ascii " bytes") (named_text r cause))

-- Of 24, by its cause.
unfoldable pub wide_text : ℕ → List ℕ
wide_text cause = cond (eqb cause 1) (ascii "spare byte not 0") (ascii "value above 0xFFFF")

-- Of 23 and 24: the record, and what is wrong with it.
unfoldable pub bad_text : ListWhy → Record → List ℕ → List ℕ
bad_text w r rest =
    record_text r rest ++ ascii ": " ++ cond (eqb w.number 23) (element_text r w.cause) (wide_text w.cause)

-- What is wrong at the record.
unfoldable pub fault_text : ListWhy → Record → List ℕ → List ℕ
fault_text w r rest =
    cond (eqb w.number 21) (ascii "a list has at most 100,000 records")
    (cond (eqb w.number 22) (cond (eqb w.cause 1) (mark_text w.place rest) (cut_text r rest)) (bad_text w r rest))

-- where it is wrong
unfoldable pub place_text : ListWhy → List ℕ
place_text w =
    numbered (ascii "refused ") w.number ++ numbered (ascii " at ") w.place ++ numbered (ascii " (byte ") w.offset ++ ascii "): "

unfoldable pub refused_text : ListWhy → List ℕ → List ℕ
refused_text w rest = place_text w ++ fault_text w (record_at rest) rest ++ ascii "\n"

unfoldable pub accepted_text : ℕ → List ℕ
accepted_text n = numbered (ascii "accepted, ") n ++ cond (eqb n 1) (ascii " record\n") (ascii " records\n")
