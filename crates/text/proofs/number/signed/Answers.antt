use Prim.Native.Nat.{◌+◌, ◌-◌, ◌^◌}
use mathlib.Core.Path.{◌≡◌}
use native.Mathlib.Omega.{arith}
use borrow.Author.Tests.{lt-ltb, le-ltb}
use Rattle.text.specs.Number.{ascii, signed_decimal}
use Rattle.text.proofs.RoomLaws.{put_then}
use Rattle.text.proofs.number.signed.Goals as goal

pub returns-then-n-lt9223372036854775808 : goal.returns-then-n-lt9223372036854775808
unfolding signed_decimal
returns-then-n-lt9223372036854775808 c = rw (lt-ltb c.args.n (2 ^ 63) (omega arith)) c.decimal.ensures

pub returns : goal.returns
unfolding signed_decimal ascii
returns c = let n = c.args.n in
    let e : 18446744073709551615 - n + 1 ≡ 2 ^ 64 - n = omega arith in
    rw (le-ltb n (2 ^ 63) (omega arith), ← e) (put_then _ _ _ _ c.put-next.ensures c.decimal-2.ensures)
