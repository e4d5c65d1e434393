use Rattle.text.specs.Number.{ascii}
use Rattle.showcheck_output.proofs.FindingLaws.{replies-put}
use Rattle.showcheck_output.proofs.replies.put_both.Goals as goal

pub returns : goal.returns
unfolding ascii
returns c = replies-put _ _ _ _ _ _ c.least-own.ensures c.put_around-next.ensures c.put_around.ensures
