-- What head_header and head_header_word return and leave.
use Rattle.std.specs.Prelude.{ℕ, List, [], ◌∷◌, Bool, not, ◌||◌, cond, length, get_or, eqb, ltb}
use Rattle.lbp16.specs.Answer.{Answer, refused}
use Rattle.lbp16.specs.Word.{bit}
use Rattle.spi.specs.Spi.{header_of, header_written}
use Rattle.spi.specs.declared.Header.{Header}
use Rattle.head.specs.Exports.{FieldsExport, fields_left}

-- A header's fields as four numbers: address, command, increment, count. Increment is 0 or 1.
unfoldable pub header_numbers : Header → List ℕ
header_numbers h = h.address ∷ h.command ∷ bit h.increment ∷ h.count ∷ []

unfoldable pub header_from : List ℕ → Header
header_from fields =
    record {
      address = get_or fields 0 0;
      command = get_or fields 1 0;
      increment = eqb (get_or fields 2 0) 1;
      count = get_or fields 3 0;
    }

-- All that head_header returns and leaves. Refused with 13 where there is not room for exactly four numbers.
unfoldable pub export_header : ℕ → List ℕ → FieldsExport
export_header word fields =
    cond (eqb (length fields) 4) (fields_left 0 (header_numbers (header_of word))) (fields_left 13 fields)

-- an address of more than 16 bits, or an increment that is neither 0 nor 1
unfoldable pub bad_header : List ℕ → Bool
bad_header fields = ltb 65535 (get_or fields 0 0) || ltb 1 (get_or fields 2 0)

-- head_header_word's answer: the header of four such numbers, refused as any header written. Before that, refused with 13 for
-- another length or a bad address or increment.
unfoldable pub export_header_word : List ℕ → Answer
export_header_word fields =
    cond (not (eqb (length fields) 4) || bad_header fields) (refused 13 0) (header_written (header_from fields))
