use Rattle.std.proofs.Common.{◌≡◌, sym, ◌∙◌, ap, ℕ}
use Rattle.cue_text.specs.Inside.{word_from}
use Rattle.cue_text.specs.declared.word.Word.{Word}
use Rattle.cue_text.proofs.WordLaws.{word-none}
use Rattle.cue_text.proofs.word.word_behind.Goals as goal

pub returns-then-w : goal.returns-then-w
returns-then-w c k h =
    let a = c.args in
    let none = word-none a.rest.now k (sym (ap (λ (w : Word). w.from) h) ∙ c.if-w.true ∙ ap (λ (w : Word). w.to) h) in
    (h ∙ sym none ∙ ap (λ (w : Word). word_from a.rest.now w.to) (sym h), c.requires)
