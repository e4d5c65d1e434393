use native.Mathlib.Omega.{arith}
use mathlib.Core.Path.{◌∙◌}
use Rattle.text.proofs.RoomLaws.{put_front}
use Rattle.showcheck_output.specs.Findings.{said}
use Rattle.showcheck_output.proofs.findings.Goals as goal

pub returns : goal.returns
unfolding said
returns c = let w = c.put_recording.ensures in
    let e = c.fresh.ensures in
    rw e at w.room_after ∙ put_front _ _ (omega (arith, rw e at w.fits))
