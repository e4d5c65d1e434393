-- A refusal of a packet in words, and the command that it is of.
use Rattle.std.specs.Prelude.{ℕ, ◌+◌, ◌-◌, ◌*◌, min, List, ◌++◌, ◌&&◌, cond, length, take, drop, eqb, ltb}
use Rattle.lbp16.specs.declared.word.Fields.{Fields}
use Rattle.packet.specs.Command.{header_bytes}
use Rattle.text.specs.Number.{ascii, hexadecimal, bytes_of_hex}
use Rattle.text.specs.Line.{numbered}
use Rattle.reason.specs.declared.Reason.{Reason}
use Rattle.sentence.specs.Sentence.{sentence_of}

-- What a packet's refusal says. 1 means other things too, but not of a packet.
unfoldable pub rule_text : ℕ → List ℕ
rule_text n =
    cond (eqb n 1) (ascii "the store is not whole, or a pointer stands above the size of its space or info area") (sentence_of n)

unfoldable pub refused_text : Reason → List ℕ
refused_text r =
    numbered (ascii "refused ") r.number ++ numbered (ascii " at ") r.place ++ ascii ": " ++ rule_text r.number ++ ascii "\n"

-- the size code's bytes
unfoldable pub element_bytes : ℕ → ℕ
element_bytes code = cond (eqb code 0) 1 (cond (eqb code 1) 2 (cond (eqb code 2) 4 8))

unfoldable pub kind_text : Fields → List ℕ
kind_text f =
    cond f.write (cond f.info (ascii "info write") (ascii "write")) (cond f.info (ascii "info read") (ascii "read"))

unfoldable pub fields_text : Fields → List ℕ
fields_text f =
    kind_text f
    ++ numbered (ascii ", space ") f.space
    ++ numbered (ascii ", ") (element_bytes f.size)
    ++ cond f.increment (ascii "-byte elements, increment") (ascii "-byte elements, no increment")
    ++ numbered (ascii ", count ") f.count

-- an address has four digits, or five from 0x10000 on
unfoldable pub address_digits : ℕ → ℕ
address_digits n = cond (ltb n 65536) 4 5

-- `n`: the bytes of the packet from the command on
unfoldable pub address_text : ℕ → Reason → List ℕ
address_text n r =
    let given = r.fields.address in
    cond (given && ltb n 4) (ascii ", address cut off\n")
    (cond given (ascii ", address 0x") (ascii ", address from the pointer (0x")
    ++ hexadecimal (address_digits r.address) r.address
    ++ cond given (ascii "\n") (ascii ")\n"))

unfoldable pub described_text : ℕ → Reason → List ℕ
described_text n r = cond (ltb n 2) (ascii ": word cut off\n") (ascii ": " ++ fields_text r.fields ++ address_text n r)

-- the place of the last of n bytes; a sum past the largest 64-bit number stays there
unfoldable pub last_place : ℕ → ℕ → ℕ
last_place place n = min (place + (n - 1)) 18446744073709551615

-- The bytes that the command's own word asks for: a write's elements have the size that the word names, also where that is not the space's.
unfoldable pub bytes_named : Fields → ℕ
bytes_named f = header_bytes f + cond f.write (f.count * element_bytes f.size) 0

-- as far as the packet has them
unfoldable pub command_shown : List ℕ → Reason → List ℕ
command_shown packet r = take (bytes_named r.fields) (drop r.place packet)

unfoldable pub span_text : Reason → ℕ → List ℕ
span_text r last =
    numbered (ascii "command ") r.index ++ numbered (ascii ", bytes ") r.place ++ numbered (ascii " to ") last

unfoldable pub command_text : List ℕ → Reason → List ℕ
command_text packet r =
    let shown = command_shown packet r in
    span_text r (last_place r.place (length shown))
    ++ ascii ","
    ++ bytes_of_hex shown
    ++ described_text (length (drop r.place packet)) r
