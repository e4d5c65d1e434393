use Rattle.text.specs.Number.{ascii}
use Rattle.text.proofs.RoomLaws.{put_then}
use Rattle.cuewhy_output.specs.Wording.{value_text}
use Rattle.cuewhy_output.proofs.shown.put_value.Goals as goal

pub returns : goal.returns
unfolding value_text ascii
returns c = put_then _ _ _ _
    (put_then _ _ _ _ c.put-at.ensures (rw (c.upper_digits.ensures, c.pair_at-upper.ensures) at c.hex-at.ensures))
    (rw c.pair_at.ensures at c.hex.ensures)
