use Rattle.why_output.specs.Given.{quad_at}
use Rattle.showcheck_output.proofs.heard.first_number.Goals as goal

pub returns : goal.returns
unfolding quad_at
returns c = c.first_number.ensures
