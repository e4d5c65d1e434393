use Rattle.text.specs.Number.{ascii}
use Rattle.showcheck_output.specs.Input.{pcapng_text}
use Rattle.showcheck_output.proofs.heard.put_pcapng.Goals as goal

pub returns : goal.returns
unfolding pcapng_text ascii
returns c = c.put.ensures
