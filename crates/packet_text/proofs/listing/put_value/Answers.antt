use Rattle.text.specs.Number.{ascii}
use Rattle.text.proofs.RoomLaws.{put_then}
use Rattle.packet_text.proofs.ListingLaws.{value-is}
use lib.ListN.{drop}
use mathlib.Core.Bool.{cond}
use Rattle.packet_text.proofs.listing.put_value.Goals as goal

pub returns : goal.returns
unfolding ascii
returns c = let hex = rw (c.width.ensures.0, c.value-n.ensures, c.rest.ensures) at c.hex.ensures in
    let a = c.args in
    rw (value-is (cond a.four 4 2) (drop a.from a.bytes.now)) at
    (put_then _ _ _ _ c.put-at.ensures hex)
