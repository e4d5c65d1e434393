-- What is wrong with a line, in words.
use Rattle.std.specs.Prelude.{ℕ, List, ◌++◌, map, ◌&&◌, cond, take, ltb}
use Rattle.text.specs.Number.{ascii}
use Rattle.text.specs.Line.{numbered}
use Rattle.cue_text.specs.Fault.{fault_of, fault_word}
use Rattle.cue_text.specs.declared.fault.Cause.{Cause}

-- Behind the word at fault. The word of `Records` is the first.
unfoldable pub says : Cause → List ℕ
says Cause.Form =
    ascii " and what follows are none of: read SPACE ADDRESS, read NAME, write SPACE ADDRESS VALUE, write NAME VALUE, name NAME SPACE ADDRESS"
says Cause.Space = ascii " is no space: registers, eeprom, status, information or a number to 255"
says Cause.Address = ascii " is no address: a number to 65535"
says Cause.Value = ascii " is no value: a number to 4294967295"
says Cause.NoName = ascii " is no name: a letter, then letters, digits, _, - and ., 32 at most, and no word that a line has of its own"
says Cause.NotDefined = ascii " is not defined above"
says Cause.Again = ascii " is defined above already"
says Cause.TooMany = ascii " is the 1001st name, and a text may have 1000"
says Cause.Records = ascii " is the 100001st record, and a list may have 100000"
says Cause.NoSpace = ascii " is a space that the card does not have"
says Cause.Misaligned = ascii " is no multiple of an element's bytes: 4 in registers, else 2"
says Cause.PastEnd = ascii " is past the end of the space"
says Cause.ReadOnly = ascii " is read only"
says Cause.Unlock = ascii " is the unlock cell, which a list may not name"
says Cause.PacketCount = ascii " is the packet count, which a list may not name"
says Cause.TooWide = ascii " has more than the 2 bytes of an element there"

-- a byte that can be shown, or `?`
unfoldable pub shown : ℕ → ℕ
shown b = cond (ltb 31 b && ltb b 127) b 63

-- a word in quotes, its first 32 bytes at most
unfoldable pub quoted : List ℕ → List ℕ
quoted w = ascii "\"" ++ map shown (take 32 w) ++ ascii "\""

-- of a line that is refused with this number
unfoldable pub sentence : ℕ → ℕ → List ℕ → List ℕ
sentence n line text =
    numbered (ascii "line ") line ++ ascii ": " ++ quoted (fault_word n line text) ++ says (fault_of n line text).cause ++ ascii "\n"
