use mathlib.Core.Path.{sym}
use native.Mathlib.Omega.{arith}
use lib.Seq.{length-take-le}
use Rattle.showcheck_output.proofs.HeardLaws.{read-put, unread_put}
use Rattle.showcheck_output.proofs.heard.put_read.Goals as goal

pub slice_bounds-put_judged-end-in-Ok : goal.slice_bounds-put_judged-end-in-Ok
slice_bounds-put_judged-end-in-Ok c = sym (length-take-le _ _ (omega (arith, c.least-n.ensures)))

pub slice_bounds-put_judged-end-in-Ok-3 : goal.slice_bounds-put_judged-end-in-Ok-3
slice_bounds-put_judged-end-in-Ok-3 c = sym (length-take-le _ _ (omega (arith, c.least-m.ensures)))

pub returns-in-Ok : goal.returns-in-Ok
returns-in-Ok c = let a = c.args in
    let e = read-put _ _ _ c.read-answer.ensures.captured a.store.now a.p _ _ _ c.in-Ok.is c.least-n.ensures
    c.least-m.ensures in
    let j = c.put_judged.ensures in
    record {
      room_after = rw e at j.room_after;
      fits = rw e at j.fits;
    }

pub returns-in-Err : goal.returns-in-Err
returns-in-Err c = let a = c.args in
    let e = unread_put _ _ _ c.read-answer.ensures.captured a.store.now a.p _ c.in-Err.is in
    let u = c.put_unread.ensures in
    record {
      room_after = rw (c.number.ensures, e) at u.room_after;
      fits = rw (c.number.ensures, e) at u.fits;
    }
