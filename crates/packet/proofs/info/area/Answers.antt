use Prim.Native.Nat.{◌/◌, ◌%◌}
use mathlib.Core.Path.{◌≡◌, refl}
use native.Mathlib.Omega.{arith}
use Rattle.packet.specs.Bytes.{bytes_of, pairs_of}
use Rattle.packet.proofs.info.area.Goals as goal

pub returns : goal.returns
unfolding bytes_of pairs_of
returns c =
    let n = c.args.pointer in
    let low : n % 65536 % 256 ≡ n % 256 = omega arith in
    let high : n % 65536 / 256 % 256 ≡ n / 256 % 256 = omega arith in
    rw (low, high, c.to_le_bytes-c.ensures, c.to_le_bytes-s.ensures, c.to_le_bytes-r.ensures, c.to_le_bytes-p.ensures) refl
