use mathlib.Core.Path.{refl}
use native.Mathlib.Omega.{arith}
use Rattle.cue_text.specs.Inside.{tallied, table_after, room_after}
use Rattle.cue_text.proofs.walk.turned.Goals as goal

pub offset_bounds-table-free : goal.offset_bounds-table-free
offset_bounds-table-free c = let n = c.requires.names in omega arith

pub bounds-table-free : goal.bounds-table-free
bounds-table-free c = c.requires.free _ c.in-Defines.is

pub returns-in-Nothing : goal.returns-in-Nothing
unfolding tallied table_after room_after
returns-in-Nothing c = let e = c.in-Nothing.is in (rw e refl, rw e refl, rw e refl)

pub returns-in-Defines : goal.returns-in-Defines
unfolding tallied table_after room_after
returns-in-Defines c = let e = c.in-Defines.is in (rw e refl, rw e refl, rw e refl)

pub returns-in-Does : goal.returns-in-Does
unfolding tallied table_after room_after
returns-in-Does c = let e = c.in-Does.is in
    (rw (e, c.record_bytes.ensures.0) refl, rw e refl, rw e c.put_cue.ensures)
