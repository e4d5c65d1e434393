use Rattle.std.proofs.Common.{◌*◌, ◌^◌, ◌<◌, length, sym, arith, ◌∙◌, refl}
use Rattle.cue_text.specs.Text.{form_meaning}
use Rattle.cue_text.specs.Inside.{meaning_of}
use Rattle.cue_text.proofs.SaidLaws.{name-nowhere, name-bad, name-refused, name-defines, kept-defined, name-within, none_is}
use Rattle.cue_text.proofs.line.name_at.Goals as goal

pub returns-in_default : goal.returns-in_default
unfolding meaning_of form_meaning
returns-in_default c index =
    name-nowhere _ _ _ _ (sym (none_is _ c.in_default.not-Some) ∙ rw (c.part.ensures, c.part-2.ensures) at c.place_by.ensures)

pub returns-then-bad_name : goal.returns-then-bad_name
unfolding meaning_of form_meaning
returns-then-bad_name c index =
    let b = sym (rw c.part-name.ensures at c.bad_name.ensures) in
    let e = sym c.in-Some.is ∙ rw (c.part.ensures, c.part-2.ensures) at c.place_by.ensures in
    name-bad _ _ _ _ e (b ∙ c.if-bad_name.true)

pub returns-in-Err : goal.returns-in-Err
unfolding meaning_of form_meaning
returns-in-Err c index =
    let b = sym (rw c.part-name.ensures at c.bad_name.ensures) in
    let e = sym c.in-Some.is ∙ rw (c.part.ensures, c.part-2.ensures) at c.place_by.ensures in
    name-refused _ _ _ _ e (b ∙ c.if-bad_name.false) _ refl c.ruling_of.ensures c.in-Err.is

pub overflow_add-place : goal.overflow_add-place
overflow_add-place c = let h = name-within _ _ _ _ c.requires in
    omega (arith, h, c)

pub kept-requires : goal.kept-requires
kept-requires c = let l : length c.args.text.now * 1 < 2 ^ 63 = c.well_formed.0.1 in
    omega (arith, name-within _ _ _ _ c.requires)

pub returns-in-Ok : goal.returns-in-Ok
unfolding meaning_of form_meaning
returns-in-Ok c index =
    let b = sym (rw c.part-name.ensures at c.bad_name.ensures) in
    let e = sym c.in-Some.is ∙ rw (c.part.ensures, c.part-2.ensures) at c.place_by.ensures in
    let l : length c.args.text.now * 1 < 2 ^ 63 = c.well_formed.0.1 in
    name-defines _ _ _ _ e (b ∙ c.if-bad_name.false) _ refl c.ruling_of.ensures c.in-Ok.is _
    (kept-defined _ _ _ _ c.requires (omega arith) e (omega arith) _ c.part-name.ensures c.kept.ensures)
