-- What each number means, in words: the one table of them. Where a number means different things to different functions, all are named.
use Rattle.std.specs.Prelude.{ℕ, List, [], ◌∷◌, cond, eqb}
use Rattle.text.specs.Number.{ascii}

pub record Entry : Type 0 where
  pub number : ℕ
  pub says : List ℕ

abbrev entry : ℕ → List ℕ → Entry
entry n t = record { number = n; says = t }

-- the packet's; the word's and the header's; the list's and its rooms'; the burst's; the daughter card's and the panel's; those
-- of a proposed output and of two lists; the recording's; the guard's; the text's; the capture's
unfoldable pub sentences : List Entry
sentences =
    entry 0 (ascii "accepted")
    ∷ entry 1 (ascii "store, pointers, reply room, answer room, or state of a list in parts: wrong length or value")
    ∷ entry 2 (ascii "the packet is above 1,472 bytes")
    ∷ entry 3 (ascii "command word or its address cut off")
    ∷ entry 4 (ascii "info bit set in a write")
    ∷ entry 5 (ascii "the card has no such space")
    ∷ entry 6 (ascii "element size not the space's, or not 2 bytes in an info read")
    ∷ entry 7 (ascii "count 0, no element is named")
    ∷ entry 8 (ascii "address not a multiple of the element size, or an element past the end of the space or info area")
    ∷ entry 9 (ascii "a write to read-only cells, any of space 7 or those of space 2 below 0x20")
    ∷ entry 10 (ascii "a write to space 2 while the unlock is closed")
    ∷ entry 11 (ascii "write data cut off")
    ∷ entry 12 (ascii "the reply would pass 1,472 bytes")
    ∷ entry 13 (ascii "field out of range, or not as many fields as a word or a header has")
    ∷ entry 21 (ascii "100,000 records read and bytes remain")
    ∷ entry 22 (ascii "mark unknown, or record cut")
    ∷ entry 23 (ascii "no such space, misaligned, past the end, read-only, or the unlock cell or the packet count")
    ∷ entry 24 (ascii "spare byte not 0, or upper half of a value not 0 in a space of 2-byte elements")
    ∷ entry 26 (ascii "room below the bytes needed: the output's; the list's, of one salvaged; 1,476 for a part")
    ∷ entry 27 (ascii "room for fewer log entries, or frames of a capture, than are needed")
    ∷ entry 31 (ascii "no SPI word")
    ∷ entry 32 (ascii "command not 0xA or 0xB")
    ∷ entry 33 (ascii "count 0; when a header is written, also above 127")
    ∷ entry 34 (ascii "more words than 1 plus the count")
    ∷ entry 35 (ascii "address not a multiple of 4, or some promised element past the end")
    ∷ entry 40 (ascii "no such field, channel or direction, room or values of another number, or a value out of range")
    ∷ entry 41 (ascii "the process table needs a byte not lent, or has a record, type, mode type or direction unknown")
    ∷ entry 42 (ascii "a field of 0 or above 64 bits, or more than 96 bits in one direction")
    ∷ entry 43 (ascii "a channel asked for that is not started")
    ∷ entry 44 (ascii "a field not of type 2, not of 1 to 24 bits, or a value too large for its width")
    ∷ entry 45 (ascii "a bound that is no finite number, or a maximum not above the minimum")
    ∷ entry 46 (ascii "the value times the maximum is not finite")
    ∷ entry 50 (ascii "list good, and the output proposed for it rejected")
    ∷ entry 51 (ascii "a record of the second list writes a cell that the first names, or names one that it writes")
    ∷ entry 61 (ascii "a packet that is refused")
    ∷ entry 62 (ascii "a reply of another length than the card's")
    ∷ entry 63 (ascii "a reply of the right length with a wrong byte")
    ∷ entry 64 (ascii "the recording ends inside a part, or where a reply should begin")
    ∷ entry 65 (ascii "a part without the mark")
    ∷ entry 70 (ascii "the guard is not sound")
    ∷ entry 71 (ascii "a write to a protected cell")
    ∷ entry 81 (ascii "a line of no form: its first word with its number of words is none of the five")
    ∷ entry 82 (ascii "a word where a space, address or value must stand is none, or is too large")
    ∷ entry 83 (ascii "a name that is none, unknown, defined twice or one too many")
    ∷ entry 91 (ascii "no capture that is read here: fewer than 24 bytes, another magic or another link type")
    ∷ entry 92 (ascii "a frame cut: fewer bytes than its header has, or than it says were captured")
    ∷ entry 93 (ascii "a datagram of the card not whole: more fragments, another UDP length, or bytes not captured")
    ∷ entry 94 (ascii "a second reply to a request")
    ∷ []

-- of any other number
unfoldable pub no_meaning : List ℕ
no_meaning = ascii "no refusal has this number"

-- the entry's text
unfoldable pub says_of : ℕ → List Entry → List ℕ
says_of n [] = no_meaning
says_of n (e ∷ es) = cond (eqb n e.number) e.says (says_of n es)

unfoldable pub sentence_of : ℕ → List ℕ
sentence_of n = says_of n sentences
