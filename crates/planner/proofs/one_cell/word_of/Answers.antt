use Rattle.planner.proofs.WriteLaws.{still-word}
use Rattle.planner.proofs.one_cell.word_of.Goals as goal

pub returns : goal.returns
returns c = λ h k. rw c.unwrap_or.ensures (still-word _ _ _ _ c.row_of.ensures c.word_of.ensures h k)
