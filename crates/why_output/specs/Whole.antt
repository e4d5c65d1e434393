-- All that the program `why` writes, for the words and the input that it is given.
use Rattle.std.specs.Prelude.{ℕ, List, [], ◌++◌, Bool, false, cond, length, replicate, eqb, ltb, is_some, is_none}
use Rattle.lbp16.specs.Space.{store_bytes}
use Rattle.lbp16.specs.Pointer.{fresh}
use Rattle.lbp16.specs.declared.pointer.Pointers.{Pointers}
use Rattle.cue.specs.Output.{Front, front_of}
use Rattle.text.specs.Number.{ascii}
use Rattle.text.specs.Line.{numbered, too_long_line}
use Rattle.why_output.specs.Given.{pointers_in}
use Rattle.why_output.specs.Hex.{Hex, hex_of, has_byte}
use Rattle.why_output.specs.Packets.{packets_text}
use Rattle.why_output.specs.Wording.{judged_text}
use Rattle.why_output.specs.Words.{usage_text}
use Rattle.why_output.specs.declared.words.Words.{Words}

-- the most bytes that the input may have
abbrev pub most_bytes : ℕ
most_bytes = 3000000

-- a whole frame with something in it
unfoldable pub is_framed : Front → Bool
is_framed Front.end = false
is_framed Front.cut = false
is_framed Front.unmarked = false
is_framed (Front.frame n) = ltb 0 n

-- An input that looks like what was not announced is judged as announced, and that is said.
unfoldable pub framed_hint : List ℕ → List ℕ
framed_hint bytes = cond (is_framed (front_of bytes)) (ascii "the input looks like packets behind \"LB\": try --lb\n") []

unfoldable pub hex_hint : List ℕ → List ℕ
hex_hint input = cond (has_byte (hex_of input)) (ascii "the input looks like hexadecimal text: try --hex\n") []

-- of a packet, or of packets behind "LB", on a store of zeros
unfoldable pub bytes_text : Words → List ℕ → Pointers → List ℕ
bytes_text w bytes p =
    let given? = is_some w.name in
    cond w.lb (packets_text given? bytes (replicate store_bytes 0) p)
    (judged_text given? false bytes (replicate store_bytes 0) p ++ framed_hint bytes)

unfoldable pub hex_text : Words → Hex → Pointers → List ℕ
hex_text w (Hex.bad k) p = numbered (ascii "no hexadecimal digit at byte ") k ++ ascii "\n"
hex_text w (Hex.bytes read) p = bytes_text w read p

unfoldable pub input_text : Words → List ℕ → Pointers → List ℕ
input_text w input p =
    cond (ltb most_bytes (length input)) too_long_line
    (cond w.hex (hex_text w (hex_of input) p) (bytes_text w input p ++ hex_hint input))

-- `found?`: whether the file named can be opened; `file`: what it has
unfoldable pub whole_text : Words → Bool → List ℕ → List ℕ → List ℕ
whole_text w found? file input =
    cond w.wrong usage_text
    (cond (is_none w.name) (input_text w input fresh)
    (cond found?
    (cond (eqb (length file) 32) (input_text w input (pointers_in file)) (ascii "the file of pointers is not 32 bytes long\n"))
    (ascii "the file of pointers cannot be opened\n")))
