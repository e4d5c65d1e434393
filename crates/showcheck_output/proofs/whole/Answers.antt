use native.Mathlib.Omega.{arith}
use mathlib.Core.Path.{◌∙◌}
use Rattle.text.proofs.RoomLaws.{put_front}
use Rattle.showcheck_output.proofs.whole.Goals as goal

pub returns : goal.returns
returns c = let w = c.written.ensures in w.room_after ∙ put_front _ _ (omega (arith, w.fits))
