-- What the C exports return and leave. The answers themselves are those of a packet, a burst and a command word.
use Rattle.std.specs.Prelude.{ℕ, zero, suc, List, [], ◌∷◌, Bool, not, ◌||◌, cond, length, get_or, eqb, ltb}
use Rattle.lbp16.specs.Answer.{Answer, accepted, refused}
use Rattle.lbp16.specs.Word.{fields_of, bit, written}
use Rattle.lbp16.specs.declared.word.Fields.{Fields}
use Rattle.packet.specs.Verdict.{answer_to}
use Rattle.packet.specs.Counts.{counts_of, sum}
use Rattle.card.specs.Run.{LentOutcome, checked_lent, run_lent}
use Rattle.spi.specs.Spi.{Burst, run_burst}
use Rattle.cue.specs.Compile.{compiled}
use Rattle.head.specs.declared.numbers.Numbers.{Numbers}

-- the number returned: the refusal's, 0 if accepted
unfoldable pub number_of : Answer → ℕ
number_of (accepted values) = 0
number_of (refused number place) = number

-- the value answered beside it: the first that was given, 0 if none was, or the refusal's place
unfoldable pub value_of : Answer → ℕ
value_of (accepted []) = 0
value_of (accepted (v ∷ vs)) = v
value_of (refused number place) = place

-- the second value answered, 0 if none was or if refused
unfoldable pub count_of : Answer → ℕ
count_of (accepted []) = 0
count_of (accepted (v ∷ [])) = 0
count_of (accepted (v ∷ w ∷ ws)) = w
count_of (refused number place) = 0

-- all three
unfoldable pub numbers_of : Answer → Numbers
numbers_of a = (number_of a, value_of a, count_of a)

-- The number returned, and the value written beside it.
pub record Given : Type 0 where
  pub number : ℕ
  pub value : ℕ

abbrev pub given : ℕ → ℕ → Given
given number value = record { number = number; value = value }

abbrev pub given_by : Answer → Given
given_by a = given (number_of a) (value_of a)

unfoldable pub export_check : List ℕ → List ℕ → List ℕ → Given
export_check packet store pointers = given_by (answer_to (checked_lent packet store pointers))

-- All that head_compile returns and leaves.
pub record CompileExport : Type 0 where
  pub number : ℕ
  pub bytes : ℕ
  pub packets : ℕ
  pub room : List ℕ

abbrev pub compile_left : ℕ → ℕ → ℕ → List ℕ → CompileExport
compile_left number bytes packets room = record { number = number; bytes = bytes; packets = packets; room = room }

unfoldable pub export_compile : List ℕ → List ℕ → CompileExport
export_compile list room =
    let c = compiled list room in
    compile_left (number_of c.answer) (value_of c.answer) (count_of c.answer) c.room

-- All that head_spi returns and leaves.
pub record SpiExport : Type 0 where
  pub number : ℕ
  pub value : ℕ
  pub store : List ℕ
  pub words : List ℕ

abbrev pub spi_left : ℕ → ℕ → List ℕ → List ℕ → SpiExport
spi_left number value store words = record { number = number; value = value; store = store; words = words }

abbrev pub spi_by : Burst → SpiExport
spi_by b = spi_left (number_of b.answer) (value_of b.answer) b.store b.room

unfoldable pub export_spi : List ℕ → List ℕ → List ℕ → SpiExport
export_spi words store room = spi_by (run_burst words store room)

-- All that head_run returns and leaves.
pub record RunExport : Type 0 where
  pub number : ℕ
  pub value : ℕ
  pub elements : ℕ
  pub store : List ℕ
  pub pointers : List ℕ
  pub reply : List ℕ

abbrev pub run_left : ℕ → ℕ → ℕ → List ℕ → List ℕ → List ℕ → RunExport
run_left number value elements store pointers reply =
    record { number = number; value = value; elements = elements; store = store; pointers = pointers; reply = reply }

abbrev pub run_by : LentOutcome → RunExport
run_by o = run_left (number_of o.answer) (value_of o.answer) o.elements o.store o.pointers o.reply

unfoldable pub export_run : List ℕ → List ℕ → List ℕ → List ℕ → RunExport
export_run packet store pointers reply = run_by (run_lent packet store pointers reply)

-- How many elements head_run answers, by the number that it returns: the sum of the counts of the packet's commands for 0, else none.
unfoldable pub elements_given : ℕ → List ℕ → ℕ
elements_given zero packet = sum (counts_of packet)
elements_given (suc n) packet = 0

-- A word's fields as seven bytes: write, address, info, space, size, increment, count. A flag is 0 or 1.
unfoldable pub bytes_of_fields : Fields → List ℕ
bytes_of_fields f =
    bit f.write
    ∷ bit f.address
    ∷ bit f.info
    ∷ f.space
    ∷ f.size
    ∷ bit f.increment
    ∷ f.count
    ∷ []

unfoldable pub fields_from : List ℕ → Fields
fields_from bytes =
    record {
      write = eqb (get_or bytes 0 0) 1;
      address = eqb (get_or bytes 1 0) 1;
      info = eqb (get_or bytes 2 0) 1;
      space = get_or bytes 3 0;
      size = get_or bytes 4 0;
      increment = eqb (get_or bytes 5 0) 1;
      count = get_or bytes 6 0;
    }

-- The number returned, and what stands in the fields lent.
pub record FieldsExport : Type 0 where
  pub number : ℕ
  pub fields : List ℕ

abbrev pub fields_left : ℕ → List ℕ → FieldsExport
fields_left number fields = record { number = number; fields = fields }

-- Refused with 13 where there is not room for exactly seven bytes.
unfoldable pub export_fields : ℕ → List ℕ → FieldsExport
export_fields word fields =
    cond (eqb (length fields) 7) (fields_left 0 (bytes_of_fields (fields_of word))) (fields_left 13 fields)

-- a byte of a flag that is neither 0 nor 1
unfoldable pub bad_flags : List ℕ → Bool
bad_flags bytes =
    ltb 1 (get_or bytes 0 0) || ltb 1 (get_or bytes 1 0) || ltb 1 (get_or bytes 2 0) || ltb 1 (get_or bytes 5 0)

-- head_word's answer: the word of seven such bytes. Refused with 13 also for another length or a bad flag.
unfoldable pub export_word : List ℕ → Answer
export_word bytes =
    cond (not (eqb (length bytes) 7) || bad_flags bytes) (refused 13 0) (written (fields_from bytes))

-- what stands in the word lent: the word answered, or what stood there
unfoldable pub word_left : Answer → ℕ → ℕ
word_left (accepted []) word = word
word_left (accepted (w ∷ ws)) word = w
word_left (refused number place) word = word

-- The number returned, and what stands in the word lent.
unfoldable pub word_given : Answer → ℕ → Given
word_given a word = given (number_of a) (word_left a word)
