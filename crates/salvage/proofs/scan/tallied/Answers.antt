use Rattle.salvage.specs.Inside.{tally}
use Rattle.salvage.proofs.scan.tallied.Goals as goal

pub returns-then-s : goal.returns-then-s
unfolding tally
returns-then-s c = rw c.if-s.true

pub returns : goal.returns
unfolding tally
returns c = rw c.if-s.false
