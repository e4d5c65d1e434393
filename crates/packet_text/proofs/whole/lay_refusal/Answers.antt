use borrow.Author.Rules.{rules}
use Rattle.packet_text.proofs.PacketLaws.{refusal-size}
use Rattle.packet_text.proofs.ListingLaws.{own-bytes, own-within, own-laid}
use mathlib.Core.Path.{sym}
use lib.Seq.{length-take-le}
use Rattle.packet_text.proofs.whole.lay_refusal.Goals as goal

pub slice_bounds-room-end : goal.slice_bounds-room-end
slice_bounds-room-end c = let o = c.requires in
    let h = own-within _ _ _ _ c.put_refusal-n.ensures (refusal-size _ _ _ o.1) in
    search rules

pub slice_bounds-put-end : goal.slice_bounds-put-end
slice_bounds-put-end c = let o = c.requires in
    sym (length-take-le _ _ (own-within _ _ _ _ c.put_refusal-n.ensures (refusal-size _ _ _ o.1)))

pub returns : goal.returns
returns c = let fits = refusal-size _ _ _ c.requires.1 in
    let n = own-bytes _ _ _ _ c.put_refusal-n.ensures fits in
    (n, own-laid _ _ _ _ c.put_refusal-n.ensures fits _ _ _ _ c.put.ensures, rw n fits)
