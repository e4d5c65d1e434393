use Rattle.cue.proofs.WriteLaws.{put4_is}
use Rattle.cue.proofs.emit.put4.Goals as goal

pub returns : goal.returns
returns c = rw (c.put2-2.ensures, c.put2.ensures) (put4_is _ _ _ _)
