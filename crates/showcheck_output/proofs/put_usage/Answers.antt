use Rattle.text.specs.Number.{ascii}
use Rattle.text.proofs.RoomLaws.{put_then}
use Rattle.showcheck_output.specs.Given.{usage_text}
use Rattle.showcheck_output.proofs.put_usage.Goals as goal

pub returns : goal.returns
unfolding usage_text ascii
returns c = put_then _ _ _ _ (put_then _ _ _ _ c.put-next.ensures c.put-next-2.ensures) c.put.ensures
