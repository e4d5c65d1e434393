use Rattle.showcheck_output.specs.Given.{whole_text}
use Rattle.showcheck_output.proofs.written.Goals as goal

pub returns-in-Ok : goal.returns-in-Ok
unfolding whole_text
returns-in-Ok c = let s = c.put_given.ensures in
    record { room_after = rw c.in-Ok.is s.room_after; fits = rw c.in-Ok.is s.fits }

pub returns-in-Err : goal.returns-in-Err
unfolding whole_text
returns-in-Err c = let s = c.put_fault.ensures in
    record { room_after = rw c.in-Err.is s.room_after; fits = rw c.in-Err.is s.fits }
