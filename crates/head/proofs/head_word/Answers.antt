use mathlib.Core.Path.{◌≡◌, refl, sym, ◌∙◌}
use Rattle.lbp16.specs.Word.{listed}
use Rattle.head.specs.Exports.{number_of, word_left, word_given, bad_flags, export_word}
use Rattle.head.proofs.ExportLaws.{good}
use Rattle.head.proofs.head_word.Goals as goal

-- what was written is the answer

pub returns-then-bad_fields : goal.returns-then-bad_fields
unfolding word_given number_of word_left export_word
returns-then-bad_fields c = rw (← c.bad_fields.ensures, c.if-bad_fields.true) refl

pub fields_from-requires : goal.fields_from-requires
fields_from-requires c = let fields = c.args.fields.now in
    (good 7 fields (bad_flags fields) (sym c.bad_fields.ensures ∙ c.if-bad_fields.false)).0

pub returns-in-Ok : goal.returns-in-Ok
unfolding word_given number_of word_left listed export_word
returns-in-Ok c = let at_answer : export_word c.args.fields.now ≡ listed c.word_of-written.result =
    rw (← c.bad_fields.ensures, c.if-bad_fields.false, ← c.fields_from.ensures) (sym c.word_of-written.ensures) in
    rw (at_answer, c.in-Ok.is) refl

pub returns-in-Err : goal.returns-in-Err
unfolding word_given number_of word_left listed export_word
returns-in-Err c = let at_answer : export_word c.args.fields.now ≡ listed c.word_of-written.result =
    rw (← c.bad_fields.ensures, c.if-bad_fields.false, ← c.fields_from.ensures) (sym c.word_of-written.ensures) in
    rw (at_answer, c.in-Err.is, c.number.ensures) refl
