use Rattle.packet_text.proofs.ListingLaws.{four_bytes}
use Rattle.packet_text.proofs.listing.value.Goals as goal

pub returns-then-four : goal.returns-then-four
returns-then-four c = rw (c.if-four.true, c.pair_at.ensures, c.pair_at-low.ensures) (four_bytes c.args.bytes.now)
