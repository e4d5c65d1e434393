use Rattle.packet.proofs.ReachLaws.{judged-is}
use Rattle.packet.proofs.refusal.judged_by.Goals as goal

pub returns : goal.returns
returns c p o reply rest e h = judged-is p o reply _ rest _ c.args.ruling _ e h (c.which_of.ensures _)
