use Prim.Native.Nat.{◌-◌}
use mathlib.Core.Path.{◌≡◌, refl, ◌∙◌}
use mathlib.Core.List.{[]}
use lib.ListN.{take}
use borrow.Author.Tests.{eq-eqb}
use Rattle.cue_text.specs.Words.{lines_of}
use Rattle.cue_text.specs.Inside.{formed, word_in}
use Rattle.cue_text.specs.Fault.{form_fault, fault_of}
use Rattle.cue_text.specs.declared.line.Shape.{Shape}
use Rattle.cue_text.proofs.FaultLaws.{fault_as}
use Rattle.cue_text.proofs.fault.fault_of.Goals as goal

-- what is wrong with the form that the line has is wrong with the line

pub returns-then-number-eq21 : goal.returns-then-number-eq21
unfolding fault_of
returns-then-number-eq21 c = c.told.ensures ∙ rw (eq-eqb _ _ c.if-number-eq21.true) refl

pub returns-in-Empty : goal.returns-in-Empty
unfolding form_fault formed
returns-in-Empty c = c.told-in-Empty.ensures ∙ (let wrong' : (let a = c.args in
    let rest = c.rest-rest.result.now in
    let ws = c.words_of-w.result in
    form_fault a.number (take (a.line - 1) (lines_of a.text.now))
    (formed Shape.Empty (word_in rest ws.second) (word_in rest ws.third) (word_in rest ws.fourth))
    ≡ fault_of a.number a.line a.text.now) =
    fault_as _ c.line_place.result c.rest-rest.ensures _ c.words_of-w.ensures c.part.ensures c.shape_of-shape.ensures _
    c.line_place.ensures.1 _ c.if-number-eq21.false Shape.Empty c.in-Empty.is in wrong')

pub returns-in-ReadAt : goal.returns-in-ReadAt
unfolding form_fault formed
returns-in-ReadAt c = c.read_fault.ensures []
    ∙ rw (c.part-in-ReadAt-2.ensures, c.part-in-ReadAt.ensures) ((let wrong' : (let a = c.args in
    let rest = c.rest-rest.result.now in
    let ws = c.words_of-w.result in
    form_fault a.number (take (a.line - 1) (lines_of a.text.now))
    (formed Shape.ReadAt (word_in rest ws.second) (word_in rest ws.third) (word_in rest ws.fourth))
    ≡ fault_of a.number a.line a.text.now) =
    fault_as _ c.line_place.result c.rest-rest.ensures _ c.words_of-w.ensures c.part.ensures c.shape_of-shape.ensures _
    c.line_place.ensures.1 _ c.if-number-eq21.false Shape.ReadAt c.in-ReadAt.is in wrong'))

pub returns-in-ReadName : goal.returns-in-ReadName
unfolding form_fault formed
returns-in-ReadName c = c.used_fault.ensures
    ∙ rw c.part-in-ReadName.ensures ((let wrong' : (let a = c.args in
    let rest = c.rest-rest.result.now in
    let ws = c.words_of-w.result in
    form_fault a.number (take (a.line - 1) (lines_of a.text.now))
    (formed Shape.ReadName (word_in rest ws.second) (word_in rest ws.third) (word_in rest ws.fourth))
    ≡ fault_of a.number a.line a.text.now) =
    fault_as _ c.line_place.result c.rest-rest.ensures _ c.words_of-w.ensures c.part.ensures c.shape_of-shape.ensures _
    c.line_place.ensures.1 _ c.if-number-eq21.false Shape.ReadName c.in-ReadName.is in wrong'))

pub returns-in-WriteAt : goal.returns-in-WriteAt
unfolding form_fault formed
returns-in-WriteAt c = c.write_fault.ensures [] []
    ∙ rw (c.part-in-WriteAt-2.ensures, c.part-in-WriteAt.ensures) ((let wrong' : (let a = c.args in
    let rest = c.rest-rest.result.now in
    let ws = c.words_of-w.result in
    form_fault a.number (take (a.line - 1) (lines_of a.text.now))
    (formed Shape.WriteAt (word_in rest ws.second) (word_in rest ws.third) (word_in rest ws.fourth))
    ≡ fault_of a.number a.line a.text.now) =
    fault_as _ c.line_place.result c.rest-rest.ensures _ c.words_of-w.ensures c.part.ensures c.shape_of-shape.ensures _
    c.line_place.ensures.1 _ c.if-number-eq21.false Shape.WriteAt c.in-WriteAt.is in wrong'))

pub returns-in-WriteName : goal.returns-in-WriteName
unfolding form_fault formed
returns-in-WriteName c = c.named_fault.ensures [] []
    ∙ rw c.part-in-WriteName.ensures ((let wrong' : (let a = c.args in
    let rest = c.rest-rest.result.now in
    let ws = c.words_of-w.result in
    form_fault a.number (take (a.line - 1) (lines_of a.text.now))
    (formed Shape.WriteName (word_in rest ws.second) (word_in rest ws.third) (word_in rest ws.fourth))
    ≡ fault_of a.number a.line a.text.now) =
    fault_as _ c.line_place.result c.rest-rest.ensures _ c.words_of-w.ensures c.part.ensures c.shape_of-shape.ensures _
    c.line_place.ensures.1 _ c.if-number-eq21.false Shape.WriteName c.in-WriteName.is in wrong'))

pub returns-in-Names : goal.returns-in-Names
unfolding form_fault formed
returns-in-Names c = c.name_fault.ensures ∙ (let wrong' : (let a = c.args in
    let rest = c.rest-rest.result.now in
    let ws = c.words_of-w.result in
    form_fault a.number (take (a.line - 1) (lines_of a.text.now))
    (formed Shape.Names (word_in rest ws.second) (word_in rest ws.third) (word_in rest ws.fourth))
    ≡ fault_of a.number a.line a.text.now) =
    fault_as _ c.line_place.result c.rest-rest.ensures _ c.words_of-w.ensures c.part.ensures c.shape_of-shape.ensures _
    c.line_place.ensures.1 _ c.if-number-eq21.false Shape.Names c.in-Names.is in wrong')

pub returns-in-Unknown : goal.returns-in-Unknown
unfolding form_fault formed
returns-in-Unknown c = c.told-in-Unknown.ensures ∙ (let wrong' : (let a = c.args in
    let rest = c.rest-rest.result.now in
    let ws = c.words_of-w.result in
    form_fault a.number (take (a.line - 1) (lines_of a.text.now))
    (formed Shape.Unknown (word_in rest ws.second) (word_in rest ws.third) (word_in rest ws.fourth))
    ≡ fault_of a.number a.line a.text.now) =
    fault_as _ c.line_place.result c.rest-rest.ensures _ c.words_of-w.ensures c.part.ensures c.shape_of-shape.ensures _
    c.line_place.ensures.1 _ c.if-number-eq21.false Shape.Unknown c.in-Unknown.is in wrong')
