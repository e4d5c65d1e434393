use Rattle.text.specs.Number.{ascii}
use Rattle.text.proofs.RoomLaws.{put_then}
use Rattle.showcheck_output.specs.Findings.{hex_line}
use Rattle.showcheck_output.proofs.around.put_line.Goals as goal

pub returns : goal.returns
unfolding hex_line ascii
returns c = put_then _ _ _ _ (put_then _ _ _ _ c.put-next.ensures c.bytes-next.ensures) c.put.ensures
