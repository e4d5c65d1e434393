use Rattle.sserial.specs.Inside.{rows_from}
use Rattle.sserial.proofs.channels.channels_of.Goals as goal

pub returns : goal.returns
unfolding rows_from
returns c = simp (
  c.row_of-8.ensures,
  c.row_of-7.ensures,
  c.row_of-6.ensures,
  c.row_of-5.ensures,
  c.row_of-4.ensures,
  c.row_of-3.ensures,
  c.row_of-2.ensures,
  c.row_of.ensures,
)
