-- What the judging program is given, and what it writes for that: a recording or a capture, and a file with the card's store and one
-- with its pointers, or none.
use Rattle.std.specs.Prelude.{ℕ, List, ◌++◌, Bool, ◌||◌, not, cond, length, replicate, eqb, ltb, Result, Ok, Err}
use Rattle.lbp16.specs.Space.{store_bytes}
use Rattle.lbp16.specs.Pointer.{fresh}
use Rattle.lbp16.specs.declared.pointer.Pointers.{Pointers}
use Rattle.text.specs.Number.{ascii}
use Rattle.why_output.specs.Given.{pointers_in}
use Rattle.why_output.specs.Words.{is_option}
use Rattle.showcheck_output.specs.Input.{input_text}
use Rattle.showcheck_output.specs.declared.given.Given.{Given}
use Rattle.showcheck_output.specs.declared.given.Fault.{Fault}

unfoldable pub usage_text : List ℕ
usage_text =
    ascii "usage: showcheck [STORE [POINTERS]] < INPUT\n"
    ++ ascii "INPUT is a recording or a capture (classic pcap) of at most 3,000,000 bytes. STORE is a file of the card's memory\n"
    ++ ascii "before the first packet, 65,728 bytes, POINTERS one of its eight pointers, 32 bytes; a fresh card has zeros.\n"

-- `--help`, or another word that begins with -, which is no name of a file
unfoldable pub has_option : List ℕ → List ℕ → Bool
has_option first second = is_option first || is_option second

-- `count`: the program's name and its arguments; `first` and `second`: these, or nothing; `store?` and `pointers?`: whether the files can be opened
unfoldable pub given_by : ℕ → List ℕ → List ℕ → Bool → Bool → Result Given Fault
given_by count first second store? pointers? =
    cond (ltb count 2) (Ok Given.Nothing)
    (cond (has_option first second || ltb 3 count) (Err Fault.Usage)
    (cond (not store?) (Err Fault.NoStore)
    (cond (eqb count 2) (Ok Given.Store)
    (cond pointers? (Ok Given.Both) (Err Fault.NoPointers)))))

-- the bytes of standard input that are looked at: one more than it may have, so that a longer one is noticed
unfoldable pub most_read : Result Given Fault → ℕ
most_read (Ok given) = 3000001
most_read (Err fault) = 0

-- `store` and `pointers` are what the files have.
unfoldable pub stored_text : List ℕ → List ℕ → Pointers → List ℕ
stored_text store input p =
    cond (eqb (length store) store_bytes) (input_text input store p) (ascii "the file of the store is not 65,728 bytes long\n")

unfoldable pub pointed_text : List ℕ → List ℕ → List ℕ → List ℕ
pointed_text store pointers input =
    cond (eqb (length pointers) 32) (stored_text store input (pointers_in pointers)) (ascii "the file of pointers is not 32 bytes long\n")

unfoldable pub given_text : Given → List ℕ → List ℕ → List ℕ → List ℕ
given_text Given.Nothing store pointers input = input_text input (replicate store_bytes 0) fresh
given_text Given.Store store pointers input = stored_text store input fresh
given_text Given.Both store pointers input = pointed_text store pointers input

unfoldable pub fault_text : Fault → List ℕ
fault_text Fault.NoStore = ascii "the file of the store cannot be opened\n"
fault_text Fault.NoPointers = ascii "the file of pointers cannot be opened\n"
fault_text Fault.Usage = usage_text

-- what is written
unfoldable pub whole_text : Result Given Fault → List ℕ → List ℕ → List ℕ → List ℕ
whole_text (Ok given) store pointers input = given_text given store pointers input
whole_text (Err fault) store pointers input = fault_text fault
