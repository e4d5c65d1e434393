-- Laws of numbers in bytes.
use Prim.Native.Nat.{ℕ, zero, suc, ◌*◌, ◌^◌, ◌/◌, ◌<◌}
use mathlib.Core.Path.{◌≡◌, refl, ap}
use lib.ListN.{length}
use native.Mathlib.Nat.{pow-suc}
use native.Mathlib.Omega.{arith}
use Rattle.packet.specs.Bytes.{number, bytes_of}

-- there are as many bytes as are asked for
pub length-bytes : (w n : ℕ) → length (bytes_of w n) ≡ w
unfolding bytes_of
length-bytes zero n = refl
length-bytes (suc w) n = ap suc (length-bytes w (n / 256))

-- a number that fits in w bytes is read back from them
pub number-of_bytes : (w n : ℕ) → n < 256 ^ w → number (bytes_of w n) ≡ n
unfolding bytes_of number
number-of_bytes zero n h = omega arith
number-of_bytes (suc w) n h =
    let k : n < 256 ^ w * 256 = rw pow-suc at h in
    rw (number-of_bytes w (n / 256) (omega arith)) (omega arith)
