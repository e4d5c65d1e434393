use Rattle.text.specs.Number.{ascii}
use Rattle.why_output.specs.Whole.{hex_hint}
use Rattle.why_output.proofs.put_hex_hint.Goals as goal

pub returns : goal.returns
unfolding hex_hint ascii
returns c = rw (c.pick-t.ensures, c.looks_hex.ensures) at c.put.ensures
