use Rattle.parts.proofs.SingleLaws.{behind-is}
use Rattle.parts.proofs.single.behind_mark.Goals as goal

pub returns : goal.returns
returns c = behind-is _ c.requires _ c.from_le_bytes.ensures
