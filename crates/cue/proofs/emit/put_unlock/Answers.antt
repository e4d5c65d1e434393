use Rattle.cue.specs.Summary.{unlocked_at}
use Rattle.cue.proofs.WriteLaws.{unlock-is}
use native.Mathlib.Omega.{arith}
use mathlib.Core.Path.{refl}
use lib.Seq.{length-sets}
use Rattle.cue.proofs.emit.put_unlock.Goals as goal

pub overflow_sub-at : goal.overflow_sub-at
overflow_sub-at c = c.requires.unlock c.if-q.true

pub put2-requires : goal.put2-requires
put2-requires c = let h = c.requires in
    let k = h.unlock c.if-q.true in rw (c.put4.ensures, length-sets) (omega (arith, h.word))

pub returns-then-q : goal.returns-then-q
unfolding unlocked_at
returns-then-q c = rw (c.put2.ensures, c.put4.ensures, c.if-q.true) (unlock-is _ _)

pub returns-else-q : goal.returns-else-q
unfolding unlocked_at
returns-else-q c = rw c.if-q.false refl
