use mathlib.Core.Path.{sym, ◌∙◌}
use mathlib.Core.List.{[]}
use mathlib.Core.Bool.{false}
use Rattle.parts.proofs.CallLaws.{other_length, bad-numbers, stands_already, kept-ranged, part-rooms, save_fits, part_left_lem}
use Rattle.parts.proofs.SingleLaws.{outcome-taken, kept-still, long-still, single_still}
use Rattle.parts.proofs.call.called.Goals as goal

pub returns-then-state-ne-STATE_BYTES : goal.returns-then-state-ne-STATE_BYTES
returns-then-state-ne-STATE_BYTES c = other_length _ _ _ _ c.requires _ c.if-state-ne-STATE_BYTES.true c.bad_state.ensures

pub returns-then-bad : goal.returns-then-bad
returns-then-bad c = bad-numbers _ _ _ _ c.requires c.if-state-ne-STATE_BYTES.false _ c.load-kept.ensures _ c.bad.ensures _
    c.if-bad.true c.bad_state-then-bad.ensures

pub returns-then-kept-ne0 : goal.returns-then-kept-ne0
returns-then-kept-ne0 c = stands_already _ _ _ _ c.requires c.if-state-ne-STATE_BYTES.false _ c.load-kept.ensures _ c.bad.ensures c.if-bad.false
    c.if-kept-ne0.true _ c.answered.ensures

pub answered-requires : goal.answered-requires
answered-requires c =
    kept-ranged c.args.state.now [] false c.args.out.now c.requires c.if-state-ne-STATE_BYTES.false _ c.load-kept.ensures _
    c.bad.ensures c.if-bad.false

pub completed-requires : goal.completed-requires
completed-requires c = (c.if-state-ne-STATE_BYTES.false, c.load-kept.ensures, sym c.bad.ensures ∙ c.if-bad.false, c.if-kept-ne0.false)

pub returns-then-completed : goal.returns-then-completed
returns-then-completed c = outcome-taken c.completed.ensures _ c.requires c.if-completed.true

pub part_taken-stop-requires : goal.part_taken-stop-requires
part_taken-stop-requires c = let p = c.requires in
    let h = c.completed.ensures in
    let f = c.if-completed.false in
    let n = long-still h f c.if-state-ne-STATE_BYTES.false in
    let l = kept-still h f _ c.load-kept.ensures in
    let d = c.bad.ensures in
    let g = c.if-bad.false in
    (kept-ranged _ [] false c.args.out.now p n _ l _ d g, part-rooms _ [] false _ p n _ l _ d g)

pub save-requires : goal.save-requires
save-requires c = let h = c.completed.ensures in
    let f = c.if-completed.false in
    let s = c.part_taken-stop.ensures in (
      save_fits _ _ _ _ c.requires (long-still h f c.if-state-ne-STATE_BYTES.false) _ (kept-still h f _ c.load-kept.ensures) _
          c.bad.ensures c.if-bad.false c.if-kept-ne0.false _ _ _ s,
      s.left.ranged,
    )

pub returns : goal.returns
returns c = let h = c.completed.ensures in
    let f = c.if-completed.false in
    single_still h f _ _ _ _ _ _
    (part_left_lem _ _ _ _ c.requires (long-still h f c.if-state-ne-STATE_BYTES.false) _ (kept-still h f _ c.load-kept.ensures) _
    c.bad.ensures c.if-bad.false c.if-kept-ne0.false _ _ _ c.part_taken-stop.ensures _ c.save.ensures _
    c.answered-2.ensures)
