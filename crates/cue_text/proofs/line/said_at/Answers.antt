use mathlib.Core.Path.{◌≡◌, refl, sym, ◌∙◌}
use Rattle.cue_text.specs.Text.{form_meaning, line_meaning}
use Rattle.cue_text.specs.Inside.{meaning_of, formed, names_at, word_in, line_at}
use Rattle.cue_text.specs.declared.line.Shape.{Shape}
use Rattle.cue_text.proofs.SaidLaws.{line-here, said-line}
use Rattle.cue_text.proofs.line.said_at.Goals as goal

-- what is said of the form that the line has is said of the line

pub name_at-requires : goal.name_at-requires
name_at-requires c = line-here _ _ _ _ c.rest-rest.ensures c.words_of-w.ensures c.requires

pub returns-in-Empty : goal.returns-in-Empty
unfolding meaning_of form_meaning formed
returns-in-Empty c = (let said' : (let a = c.args in
    let rest = c.rest-rest.result.now in
    let ws = c.words_of-w.result in
    let known = names_at a.text.now a.table.now in
    _ ≡ form_meaning known a.index (formed Shape.Empty (word_in rest ws.second) (word_in rest ws.third) (word_in rest ws.fourth))
    → _ ≡ line_meaning known a.index (line_at a.text.now a.place)) = let h = line-here _ _ _ _ c.rest-rest.ensures c.words_of-w.ensures c.requires in
    said-line _ _ _ _ h _ _ (sym c.in-Empty.is ∙ rw c.part.ensures at c.shape_of-shape.ensures) in said') refl

pub returns-in-ReadAt : goal.returns-in-ReadAt
unfolding formed
returns-in-ReadAt c = (let said' : (let a = c.args in
    let rest = c.rest-rest.result.now in
    let ws = c.words_of-w.result in
    let known = names_at a.text.now a.table.now in
    _ ≡ form_meaning known a.index (formed Shape.ReadAt (word_in rest ws.second) (word_in rest ws.third) (word_in rest ws.fourth))
    → _ ≡ line_meaning known a.index (line_at a.text.now a.place)) = let h = line-here _ _ _ _ c.rest-rest.ensures c.words_of-w.ensures c.requires in
    said-line _ _ _ _ h _ _ (sym c.in-ReadAt.is ∙ rw c.part.ensures at c.shape_of-shape.ensures) in said') (c.read_at.ensures _ _)

pub returns-in-ReadName : goal.returns-in-ReadName
unfolding formed
returns-in-ReadName c = (let said' : (let a = c.args in
    let rest = c.rest-rest.result.now in
    let ws = c.words_of-w.result in
    let known = names_at a.text.now a.table.now in
    _ ≡ form_meaning known a.index (formed Shape.ReadName (word_in rest ws.second) (word_in rest ws.third) (word_in rest ws.fourth))
    → _ ≡ line_meaning known a.index (line_at a.text.now a.place)) = let h = line-here _ _ _ _ c.rest-rest.ensures c.words_of-w.ensures c.requires in
    said-line _ _ _ _ h _ _ (sym c.in-ReadName.is ∙ rw c.part.ensures at c.shape_of-shape.ensures) in said') c.read_name.ensures

pub returns-in-WriteAt : goal.returns-in-WriteAt
unfolding formed
returns-in-WriteAt c = (let said' : (let a = c.args in
    let rest = c.rest-rest.result.now in
    let ws = c.words_of-w.result in
    let known = names_at a.text.now a.table.now in
    _ ≡ form_meaning known a.index (formed Shape.WriteAt (word_in rest ws.second) (word_in rest ws.third) (word_in rest ws.fourth))
    → _ ≡ line_meaning known a.index (line_at a.text.now a.place)) = let h = line-here _ _ _ _ c.rest-rest.ensures c.words_of-w.ensures c.requires in
    said-line _ _ _ _ h _ _ (sym c.in-WriteAt.is ∙ rw c.part.ensures at c.shape_of-shape.ensures) in said') (c.write_at.ensures _ _)

pub returns-in-WriteName : goal.returns-in-WriteName
unfolding formed
returns-in-WriteName c = (let said' : (let a = c.args in
    let rest = c.rest-rest.result.now in
    let ws = c.words_of-w.result in
    let known = names_at a.text.now a.table.now in
    _ ≡ form_meaning known a.index (formed Shape.WriteName (word_in rest ws.second) (word_in rest ws.third) (word_in rest ws.fourth))
    → _ ≡ line_meaning known a.index (line_at a.text.now a.place)) = let h = line-here _ _ _ _ c.rest-rest.ensures c.words_of-w.ensures c.requires in
    said-line _ _ _ _ h _ _ (sym c.in-WriteName.is ∙ rw c.part.ensures at c.shape_of-shape.ensures) in said') c.write_name.ensures

pub returns-in-Names : goal.returns-in-Names
unfolding formed
returns-in-Names c = (let said' : (let a = c.args in
    let rest = c.rest-rest.result.now in
    let ws = c.words_of-w.result in
    let known = names_at a.text.now a.table.now in
    _ ≡ form_meaning known a.index (formed Shape.Names (word_in rest ws.second) (word_in rest ws.third) (word_in rest ws.fourth))
    → _ ≡ line_meaning known a.index (line_at a.text.now a.place)) = let h = line-here _ _ _ _ c.rest-rest.ensures c.words_of-w.ensures c.requires in
    said-line _ _ _ _ h _ _ (sym c.in-Names.is ∙ rw c.part.ensures at c.shape_of-shape.ensures) in said') (c.name_at.ensures _)

pub returns-in-Unknown : goal.returns-in-Unknown
unfolding meaning_of form_meaning formed
returns-in-Unknown c = (let said' : (let a = c.args in
    let rest = c.rest-rest.result.now in
    let ws = c.words_of-w.result in
    let known = names_at a.text.now a.table.now in
    _ ≡ form_meaning known a.index (formed Shape.Unknown (word_in rest ws.second) (word_in rest ws.third) (word_in rest ws.fourth))
    → _ ≡ line_meaning known a.index (line_at a.text.now a.place)) = let h = line-here _ _ _ _ c.rest-rest.ensures c.words_of-w.ensures c.requires in
    said-line _ _ _ _ h _ _ (sym c.in-Unknown.is ∙ rw c.part.ensures at c.shape_of-shape.ensures) in said') refl
