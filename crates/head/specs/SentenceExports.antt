-- What head_sentence returns and leaves.
use Rattle.std.specs.Prelude.{ℕ, List, ◌++◌, cond, length, drop, ltb}
use Rattle.sentence.specs.Sentence.{sentence_of}

pub record SentenceExport : Type 0 where
  pub number : ℕ
  pub bytes : ℕ
  pub room : List ℕ

abbrev pub sentence_left : ℕ → ℕ → List ℕ → SentenceExport
sentence_left number bytes room = record { number = number; bytes = bytes; room = room }

-- Refused with 26 where the room is too small; the bytes needed are told either way.
unfoldable pub export_text : List ℕ → List ℕ → SentenceExport
export_text text room =
    cond (ltb (length room) (length text)) (sentence_left 26 (length text) room)
    (sentence_left 0 (length text) (text ++ drop (length text) room))

unfoldable pub export_sentence : ℕ → List ℕ → SentenceExport
export_sentence number room = export_text (sentence_of number) room
