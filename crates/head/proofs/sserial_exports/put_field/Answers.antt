use lib.ListN.{length-set}
use native.Mathlib.Omega.{arith}
use Rattle.head.specs.SserialExports.{field_words}
use Rattle.lbp16.proofs.ListLaws.{stored-whole}
use Rattle.head.proofs.sserial_exports.put_field.Goals as goal

pub bounds-words-4 : goal.bounds-words-4
bounds-words-4 c = simp length-set (omega arith)

pub bounds-words-5 : goal.bounds-words-5
bounds-words-5 c = simp length-set (omega arith)

pub bounds-words-6 : goal.bounds-words-6
bounds-words-6 c = simp length-set (omega arith)

pub returns : goal.returns
unfolding field_words
returns c = rw
    (← c.low_word.ensures, ← c.low_word-2.ensures)
    (stored-whole _ c.args.words.now c.requires)
