use Rattle.cue_text.proofs.WordLaws.{part-is}
use Rattle.cue_text.proofs.word.part.Goals as goal

pub returns : goal.returns
returns c = part-is _ _ _ _ c.least-to.ensures c.least-from.ensures
