use Rattle.showcheck_output.specs.Given.{given_text}
use Rattle.showcheck_output.proofs.put_given.Goals as goal

pub returns-in-Nothing : goal.returns-in-Nothing
unfolding given_text
returns-in-Nothing c = let i = c.put_input.ensures in
    let e = c.fresh.ensures in
    record { room_after = rw (c.in-Nothing.is, ← e) i.room_after; fits = rw (c.in-Nothing.is, ← e) i.fits }

pub returns-in-Store : goal.returns-in-Store
unfolding given_text
returns-in-Store c = let s = c.put_stored.ensures in
    let e = c.fresh-in-Store.ensures in
    record { room_after = rw (c.in-Store.is, ← e) s.room_after; fits = rw (c.in-Store.is, ← e) s.fits }

pub returns-in-Both : goal.returns-in-Both
unfolding given_text
returns-in-Both c = let s = c.put_pointed.ensures in
    record { room_after = rw c.in-Both.is s.room_after; fits = rw c.in-Both.is s.fits }
