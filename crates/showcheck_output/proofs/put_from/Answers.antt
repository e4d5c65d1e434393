use native.Mathlib.Omega.{arith}
use Rattle.showcheck_output.proofs.FindingLaws.{becomes}
use Rattle.showcheck_output.proofs.put_from.Goals as goal

pub returns : goal.returns
returns c = let p = c.put.ensures in
    let e = becomes _ _ (omega (arith, c.requires)) p in
    let i = c.put_input.ensures in
    record {
      room_after = rw e at i.room_after;
      fits = rw e at i.fits;
    }
