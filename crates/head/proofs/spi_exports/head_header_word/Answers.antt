use mathlib.Core.Path.{◌≡◌, refl, sym, ◌∙◌}
use Rattle.spi.specs.Spi.{header_listed}
use Rattle.head.specs.Exports.{number_of, word_left, word_given}
use Rattle.head.specs.SpiExports.{bad_header, export_header_word}
use Rattle.head.proofs.ExportLaws.{good}
use Rattle.head.proofs.spi_exports.head_header_word.Goals as goal

-- what was written is the answer

pub returns-then-bad_header : goal.returns-then-bad_header
unfolding word_given number_of word_left export_header_word
returns-then-bad_header c = rw (← c.bad_header.ensures, c.if-bad_header.true) refl

pub header_from-requires : goal.header_from-requires
header_from-requires c = let fields = c.args.fields.now in
    good 4 fields (bad_header fields) (sym c.bad_header.ensures ∙ c.if-bad_header.false)

pub returns-in-Ok : goal.returns-in-Ok
unfolding word_given number_of word_left header_listed export_header_word
returns-in-Ok c = let at_answer : export_header_word c.args.fields.now ≡ header_listed c.header_word-written.result =
    rw (← c.bad_header.ensures, c.if-bad_header.false, ← c.header_from.ensures) (sym c.header_word-written.ensures) in
    rw (at_answer, c.in-Ok.is) refl

pub returns-in-Err : goal.returns-in-Err
unfolding word_given number_of word_left header_listed export_header_word
returns-in-Err c = let at_answer : export_header_word c.args.fields.now ≡ header_listed c.header_word-written.result =
    rw (← c.bad_header.ensures, c.if-bad_header.false, ← c.header_from.ensures) (sym c.header_word-written.ensures) in
    rw (at_answer, c.in-Err.is, c.number.ensures) refl
