use mathlib.Core.Path.{refl}
use Rattle.text.specs.Number.{ascii}
use Rattle.cue_text.specs.Numbers.{is_keyword}
use Rattle.cue_text.proofs.known.is_keyword.Goals as goal

pub returns : goal.returns
unfolding is_keyword ascii
returns c = rw (c.same.ensures, c.same-2.ensures, c.same-3.ensures)
    (rw (c.same-4.ensures, c.same-5.ensures, c.same-6.ensures, c.same-7.ensures) refl)
