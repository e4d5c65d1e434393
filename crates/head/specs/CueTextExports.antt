-- What head_assemble and head_list_text return and leave.
use Rattle.std.specs.Prelude.{ℕ, List}
use Rattle.cue_text.specs.Assembled.{Left, text_assembled}
use Rattle.list_text.specs.Written.{list_written}
use Rattle.head.specs.Exports.{number_of, value_of, count_of}

pub record TextExport : Type 0 where
  pub number : ℕ
  pub bytes : ℕ
  pub count : ℕ
  pub room : List ℕ

abbrev pub text_left : ℕ → ℕ → ℕ → List ℕ → TextExport
text_left number bytes count room = record { number = number; bytes = bytes; count = count; room = room }

unfoldable pub of_left : Left → TextExport
of_left l = text_left (number_of l.answer) (value_of l.answer) (count_of l.answer) l.room

unfoldable pub export_assemble : List ℕ → List ℕ → TextExport
export_assemble text room = of_left (text_assembled text room)

unfoldable pub export_list_text : List ℕ → List ℕ → TextExport
export_list_text list room = of_left (list_written list room)
