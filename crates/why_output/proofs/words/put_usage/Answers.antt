use Rattle.text.specs.Number.{ascii}
use Rattle.text.proofs.RoomLaws.{put_then}
use Rattle.why_output.specs.Words.{usage_text}
use Rattle.why_output.proofs.words.put_usage.Goals as goal

pub returns : goal.returns
unfolding usage_text ascii
returns c = put_then _ _ _ _ (put_then _ _ _ _ c.put-at.ensures c.put-at-2.ensures) c.put.ensures
