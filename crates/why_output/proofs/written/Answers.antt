use mathlib.Core.Path.{sym, ◌∙◌}
use Rattle.text.specs.Number.{ascii}
use Rattle.why_output.proofs.WordsLaws.{none_is}
use Rattle.why_output.proofs.WholeLaws.{whole_wrong, whole_fresh, whole-lost, whole-short, whole-given}
use Rattle.why_output.proofs.written.Goals as goal

pub returns-then-w : goal.returns-then-w
returns-then-w c = let a = c.args in
    rw (whole_wrong a.w a.found a.file.now a.input.now c.if-w.true) c.put_usage.ensures

pub returns-then-is_none : goal.returns-then-is_none
returns-then-is_none c = let a = c.args in
    let name = sym (none_is _ _ c.is_none.ensures) ∙ c.if-is_none.true in
    rw (whole_fresh a.w a.found a.file.now a.input.now c.if-w.false name)
    (rw c.fresh.ensures at c.put_input.ensures)

pub returns-then-not-found : goal.returns-then-not-found
unfolding ascii
returns-then-not-found c = let a = c.args in
    let name = sym (none_is _ _ c.is_none.ensures) ∙ c.if-is_none.false in
    rw (whole-lost a.w a.found a.file.now a.input.now c.if-w.false name c.if-not-found.true)
    c.put.ensures

pub returns-then-file-ne32 : goal.returns-then-file-ne32
unfolding ascii
returns-then-file-ne32 c = let a = c.args in
    let name = sym (none_is _ _ c.is_none.ensures) ∙ c.if-is_none.false in
    rw
    (whole-short a.w a.found a.file.now a.input.now c.if-w.false name c.if-not-found.false c.if-file-ne32.true)
    c.put-then-file-ne32.ensures

pub returns : goal.returns
returns c = let a = c.args in
    let name = sym (none_is _ _ c.is_none.ensures) ∙ c.if-is_none.false in
    rw
    (whole-given a.w a.found a.file.now a.input.now c.if-w.false name c.if-not-found.false c.if-file-ne32.false)
    (rw c.pointers_in.ensures at c.put_input-2.ensures)
