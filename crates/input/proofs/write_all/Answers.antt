use Rattle.std.proofs.Common.{◌≤◌, length, drop, arith}
use Rattle.std.proofs.lemmas.List.{length-drop}
use Rattle.input.proofs.WritingLaws.{more_written, tail_whole}
use Rattle.input.proofs.write_all.Goals as goal

pub loop-done-preserved : goal.loop-done-preserved
loop-done-preserved g c =
    let wrote = c.in-Ok.ensures in
    let rest = tail_whole c.loop-done.done c.args.bytes.now in
    let bound : c.in-Ok.n ≤ length (drop c.loop-done.done c.args.bytes.now) = rw rest at wrote.bound in
    let left = length-drop c.loop-done.done c.args.bytes.now in
    (omega (arith, bound, left, c.loop-done.invariant.0), more_written _ _ _ c.loop-done.done c.in-Ok.n _ c.loop-done.invariant.1 (rw rest at wrote.bytes))
