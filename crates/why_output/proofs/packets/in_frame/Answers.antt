use Rattle.why_output.proofs.PacketsLaws.{inside_is}
use Rattle.why_output.proofs.packets.in_frame.Goals as goal

pub returns : goal.returns
returns c = inside_is _ _ c.rest.ensures c.front.ensures
