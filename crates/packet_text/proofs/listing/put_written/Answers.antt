use Rattle.text.specs.Number.{ascii}
use Rattle.text.proofs.RoomLaws.{put_then}
use Rattle.packet_text.proofs.ListingLaws.{write-is, read_is}
use Rattle.packet_text.proofs.listing.put_written.Goals as goal

pub returns-then-f : goal.returns-then-f
unfolding ascii
returns-then-f c = let values = rw (c.rest-carried.ensures, c.header_bytes.ensures.0) at c.put_values-at.ensures in
    rw (write-is c.args.f c.args.rest.now c.requires.2 c.if-f.true) at
    (put_then _ _ _ _ (put_then _ _ _ _ c.put-at.ensures values) c.put.ensures)

pub returns : goal.returns
unfolding ascii
returns c = rw (read_is _ c.args.rest.now c.if-f.false) at c.put-2.ensures
