use Rattle.list_reason.proofs.CauseLaws.{record_first}
use Rattle.list_reason.proofs.record_cause.Goals as goal

pub returns : goal.returns
returns c = simp (c.element_cause.ensures, c.record_at-r.ensures, record_first)
