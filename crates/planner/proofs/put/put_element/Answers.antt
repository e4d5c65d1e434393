use Prim.Native.Nat.{◌+◌, ◌-◌}
use lib.ListN.{take, drop}
use native.Mathlib.Omega.{arith}
use Rattle.text.proofs.RoomLaws.{put-room}
use Rattle.planner.proofs.PutLaws.{kept-part}
use Rattle.planner.proofs.put.put_element.Goals as goal

pub returns : goal.returns
returns c = let a = c.args in
    let n = 6 + a.n - 6 in
    let from = a.end - a.n in
    kept-part a.end from 6 n a.out.now _ a.rest.now
    (put-room (take n (drop 6 a.rest.now)) a.out.now from c.put.ensures)
    (omega arith)
