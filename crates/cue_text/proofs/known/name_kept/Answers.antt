use Rattle.cue_text.proofs.KnownLaws.{near-bytes, far-bytes}
use borrow.Author.Rules.{rules}
use Rattle.cue_text.proofs.known.name_kept.Goals as goal

pub returns-then-x-lt-FAR : goal.returns-then-x-lt-FAR
returns-then-x-lt-FAR c = near-bytes _ _ (search rules) c.part.ensures

pub returns : goal.returns
returns c = far-bytes _ _ _ _ (search rules) c.rest-rest.ensures c.word_at.ensures.0 c.part-2.ensures
