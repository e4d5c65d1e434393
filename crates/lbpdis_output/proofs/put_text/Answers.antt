use Prim.Native.Nat.{ℕ}
use mathlib.Core.Path.{◌≡◌, sym}
use borrow.Author.Rules.{rules}
use lib.ListN.{length, replicate, length-replicate}
use lib.Seq.{length-take-le}
use Rattle.lbpdis_output.proofs.PartLaws.{answered, shows}
use Rattle.lbpdis_output.proofs.put_text.Goals as goal

pub unwrap-shown-requires : goal.unwrap-shown-requires
unwrap-shown-requires c = let e = c.put_packet.ensures in
    answered _ _ (replicate 69584 0) _ e.fits (length-replicate {A = ℕ} 69584 0) _ e.shown

-- the whole text stands in the words
pub slice_bounds-words-end : goal.slice_bounds-words-end
slice_bounds-words-end c = let e = c.put_packet.ensures in
    let a : length c.put_packet.new.out ≡ 69584 = search rules in
    (shows _ _ (replicate 69584 0) _ e.fits (length-replicate {A = ℕ} 69584 0) _ _ c.unwrap-shown.ensures e.shown a).short

pub slice_bounds-put-end : goal.slice_bounds-put-end
slice_bounds-put-end c = let e = c.put_packet.ensures in
    let a : length c.put_packet.new.out ≡ 69584 = search rules in
    let n = (shows _ _ (replicate 69584 0) _ e.fits (length-replicate {A = ℕ} 69584 0) _ _ c.unwrap-shown.ensures e.shown a).short in
    sym (length-take-le _ _ n)

pub returns : goal.returns
returns c = let e = c.put_packet.ensures in
    let a : length c.put_packet.new.out ≡ 69584 = search rules in
    let s = shows _ _ (replicate 69584 0) _ e.fits (length-replicate {A = ℕ} 69584 0) _ _ c.unwrap-shown.ensures e.shown a in
    (rw s.text at c.put.ensures, s.pointers, e.fits)
