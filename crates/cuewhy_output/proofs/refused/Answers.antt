use native.Mathlib.Omega.{arith}
use Rattle.text.specs.Number.{ascii}
use Rattle.text.proofs.RoomLaws.{put_then}
use Rattle.cuewhy_output.specs.Wording.{refused_text}
use Rattle.cuewhy_output.proofs.refused.Goals as goal

pub returns : goal.returns
unfolding refused_text ascii
returns c = (
  put_then _ _ _ _ (put_then _ _ _ _ c.place-at.ensures (rw c.record_at-r.ensures at c.put_fault-at.ensures)) c.put.ensures,
  rw (← c.record_at-r.ensures) (omega arith),
)
