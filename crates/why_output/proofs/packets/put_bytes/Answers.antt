use Prim.Native.Nat.{◌^◌, ◌<◌}
use mathlib.Core.Path.{sym}
use native.Mathlib.Omega.{arith}
use lib.ListN.{length}
use lib.Seq.{length-take-le}
use Rattle.text.specs.Number.{ascii}
use Rattle.text.proofs.RoomLaws.{put_then}
use Rattle.why_output.proofs.RoomLaws.{few-shown, few-length, many-shown, many-length}
use Rattle.why_output.proofs.packets.put_bytes.Goals as goal

pub returns-then-packet-le-LIMIT : goal.returns-then-packet-le-LIMIT
returns-then-packet-le-LIMIT c = let s = c.args.packet.now in
    let h = c.if-packet-le-LIMIT.true in
    record {
      room_after = rw (few-shown s h) at c.bytes.ensures;
      fits = few-length s h;
    }

pub slice_bounds-bytes-end : goal.slice_bounds-bytes-end
slice_bounds-bytes-end c = sym (length-take-le 16 c.args.packet.now (omega (arith, c.if-packet-le-LIMIT.false)))

pub returns : goal.returns
unfolding ascii
returns c = let s = c.args.packet.now in
    let h = c.if-packet-le-LIMIT.false in
    let e = put_then _ _ _ _ (put_then _ _ _ _ c.numbered-next.ensures c.put-next.ensures) c.bytes-2.ensures in
    let l : length s < 2 ^ 64 = omega (arith, c.well_formed) in
    record {
      room_after = rw (many-shown s (omega arith)) at e;
      fits = many-length s (omega arith) l;
    }
