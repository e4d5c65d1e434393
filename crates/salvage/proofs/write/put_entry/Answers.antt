use mathlib.Core.Path.{sym, ap, ◌∙◌}
use native.Mathlib.Omega.{arith}
use lib.ListN.{length-take, length-drop}
use lib.Seq.{sets}
use Rattle.packet.proofs.SliceLaws.{part_put}
use Rattle.salvage.proofs.WriteLaws.{entry-none, entry_skipped, entry-fits}
use Rattle.salvage.proofs.write.put_entry.Goals as goal

pub returns-then-s : goal.returns-then-s
returns-then-s c = ap (sets _ _) (sym (entry-none _ _ c.if-s.true))

pub slice_bounds-put_pair-end : goal.slice_bounds-put_pair-end
slice_bounds-put_pair-end c = let fits = entry-fits _ _ _ _ c.if-s.false c.requires in omega arith

pub put_pair-requires : goal.put_pair-requires
put_pair-requires c =
    let fits = entry-fits _ _ _ _ c.if-s.false c.requires in
    rw (length-take, length-drop) (omega arith)

pub returns : goal.returns
returns c =
    let fits = entry-fits _ _ _ _ c.if-s.false c.requires in
    part_put _ _ _ c.put_pair.ensures (omega arith) (omega arith) ∙ ap (sets _ _) (sym (entry_skipped _ _ c.if-s.false))
