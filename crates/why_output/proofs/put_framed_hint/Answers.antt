use Rattle.text.specs.Number.{ascii}
use Rattle.why_output.specs.Whole.{framed_hint}
use Rattle.why_output.proofs.put_framed_hint.Goals as goal

pub returns : goal.returns
unfolding framed_hint ascii
returns c = rw (c.pick-t.ensures, c.is_framed.ensures) at c.put.ensures
