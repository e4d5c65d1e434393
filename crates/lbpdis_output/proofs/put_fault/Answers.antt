use Rattle.text.specs.Number.{ascii}
use Rattle.text.proofs.RoomLaws.{put_then}
use Rattle.lbpdis_output.specs.Said.{fault_line}
use Rattle.lbpdis_output.proofs.put_fault.Goals as goal

pub returns : goal.returns
unfolding fault_line ascii
returns c = put_then _ _ _ _ c.numbered-at.ensures c.put.ensures
