use borrow.Author.Rules.{rules}
use Rattle.packet_text.proofs.ListingLaws.{line-size, own-bytes, own-within, own-laid}
use mathlib.Core.Path.{sym}
use lib.Seq.{length-take-le}
use Rattle.packet_text.proofs.listing.lay_line.Goals as goal

pub slice_bounds-room-end : goal.slice_bounds-room-end
slice_bounds-room-end c = let h = own-within _ _ _ _ c.put_line-n.ensures (line-size _ _ c.requires _ _).0 in
    search rules

pub slice_bounds-put-end : goal.slice_bounds-put-end
slice_bounds-put-end c = sym (length-take-le _ _ (own-within _ _ _ _ c.put_line-n.ensures (line-size _ _ c.requires _ _).0))

pub returns : goal.returns
returns c = let fits = (line-size _ _ c.requires _ _).0 in
    (own-bytes _ _ _ _ c.put_line-n.ensures fits, own-laid _ _ _ _ c.put_line-n.ensures fits _ _ _ _ c.put.ensures)
