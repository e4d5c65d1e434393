use Rattle.cue_text.proofs.KnownLaws.{near-place, far-place}
use borrow.Author.Rules.{rules}
use Rattle.cue_text.proofs.known.place_kept.Goals as goal

pub returns-then-x-lt-FAR : goal.returns-then-x-lt-FAR
returns-then-x-lt-FAR c = near-place _ _ (search rules)

pub returns : goal.returns
returns c = far-place _ _ (search rules) c.defined_at.ensures
