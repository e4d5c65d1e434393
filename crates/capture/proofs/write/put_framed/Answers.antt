use Rattle.capture.proofs.WriteLaws.{framed-put}
use Rattle.capture.proofs.write.put_framed.Goals as goal

pub returns : goal.returns
returns c = rw (c.copy.ensures, c.put_head.ensures) (framed-put _ _ _ _ _ c.requires.1)
