use native.Mathlib.Omega.{arith}
use mathlib.Core.Path.{refl, sym, ◌∙◌}
use Rattle.lbp16.specs.Word.{written, listed, word_of}
use Rattle.lbp16.proofs.WordLaws.{in_range_lem}
use mathlib.Core.Path.{ap, ◌≡◌}
use mathlib.Core.List.{[], ◌∷◌}
use mathlib.Core.Bool.{false}
use Rattle.lbp16.specs.Answer.{accepted}
use Rattle.lbp16.specs.Word.{out_of_range}
use Rattle.lbp16.proofs.WordLaws.{InRange}
use Rattle.lbp16.proofs.word.word_of.Goals as goal

pub returns-then-out_of_range : goal.returns-then-out_of_range
unfolding written listed
returns-then-out_of_range c = rw (c.at.ensures, sym c.out_of_range.ensures ∙ c.if-out_of_range.true) refl

kept : (c : goal.After-struct_known-3-1) → out_of_range c.args.f ≡ false
kept c =
    sym c.out_of_range.ensures ∙ c.if-out_of_range.false

range : (c : goal.After-struct_known-3-1) → InRange c.args.f
range c = in_range_lem _ (kept c)

pub overflow_mul-result : goal.overflow_mul-result
overflow_mul-result c = let r = range c in omega arith

pub overflow_add-result-3 : goal.overflow_add-result-3
overflow_add-result-3 c = let r = range c in omega arith

pub overflow_add-result-4 : goal.overflow_add-result-4
overflow_add-result-4 c = let r = range c in omega arith

pub overflow_add-result-5 : goal.overflow_add-result-5
overflow_add-result-5 c = let r = range c in omega arith

pub overflow_add-result-6 : goal.overflow_add-result-6
overflow_add-result-6 c = let r = range c in omega arith

pub returns : goal.returns
unfolding written listed word_of
returns c = rw (kept c) (ap (λ n. accepted (n ∷ [])) (omega arith))
