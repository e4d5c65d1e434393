use Rattle.text.specs.Number.{ascii}
use Rattle.text.proofs.RoomLaws.{put_then}
use Rattle.list_text.specs.Written.{hex_word}
use Rattle.list_text.proofs.put_number.Goals as goal

pub returns : goal.returns
unfolding hex_word ascii
returns c = put_then _ _ _ _ c.put-at.ensures c.hex.ensures
