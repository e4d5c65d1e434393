use Rattle.text.specs.Number.{ascii}
use Rattle.showcheck_output.specs.Findings.{unanswered_text}
use Rattle.showcheck_output.proofs.refused.put_unanswered.Goals as goal

pub returns : goal.returns
unfolding unanswered_text ascii
returns c = rw (c.pick-t.ensures, c.has_none.ensures) at c.put.ensures
