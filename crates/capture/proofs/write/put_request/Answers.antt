use Rattle.capture.proofs.WriteLaws.{request-put}
use Rattle.capture.proofs.write.put_request.Goals as goal

pub returns : goal.returns
returns c = rw (c.put_head.ensures, c.put_framed.ensures) (request-put _ _ _ _ _ c.requires.1)
