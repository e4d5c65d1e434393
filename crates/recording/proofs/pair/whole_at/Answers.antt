use Rattle.recording.proofs.PairLaws.{ran-refused, ran-fits, ran-lent, ran-accepted}
use Rattle.recording.proofs.pair.whole_at.Goals as goal

pub returns-in_default : goal.returns-in_default
returns-in_default c = ran-refused _ _ _ _ _ _ _ _ c.run-ran.ensures.ran _ c.in_default.is

pub slice_bounds-reply_at-end : goal.slice_bounds-reply_at-end
slice_bounds-reply_at-end c = let a = c.args in
    ran-fits a.rest.now a.n a.store.now a.p a.room.now _ _ _ c.run-ran.ensures.ran _ c.in-Ok.is
    c.requires.1
    c.run-ran.auto.reply

pub slice_bounds-reply_at-end-2 : goal.slice_bounds-reply_at-end-2
slice_bounds-reply_at-end-2 c = let a = c.args in
    ran-lent a.rest.now a.n a.store.now a.p a.room.now _ _ _ c.run-ran.ensures.ran _ c.in-Ok.is
    c.requires.1
    c.run-ran.auto.reply

pub returns : goal.returns
returns c = ran-accepted _ _ _ _ _ _ _ _ c.run-ran.ensures.ran _ c.in-Ok.is _ c.reply_at-pair.ensures
