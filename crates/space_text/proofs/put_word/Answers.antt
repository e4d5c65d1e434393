use mathlib.Core.Path.{◌∙◌}
use Rattle.text.specs.Number.{ascii}
use Rattle.space_text.proofs.SpaceTextLaws.{space-word_is}
use Rattle.space_text.proofs.put_word.Goals as goal

pub returns : goal.returns
unfolding ascii
returns c = let e1 = c.pick-t.ensures in
    let e2 = rw e1 at c.pick-t-2.ensures in
    let e3 = rw e2 at c.pick-t-3.ensures in
    let e4 = rw e3 at c.pick-t-4.ensures in
    rw (e4 ∙ space-word_is c.args.space) at c.put.ensures
