use borrow.Author.Rules.{rules}
use Prim.Native.Nat.{◌+◌, ◌*◌, ◌<◌, ◌^◌, ◌/◌}
use mathlib.Core.Path.{◌≡◌}
use native.Mathlib.Omega.{arith}
use lib.ListN.{length, get_or}
use Rattle.sserial.proofs.BitLaws.{word_fits, chunk_put}
use Rattle.sserial.proofs.BitLaws.{each_set}
use Rattle.sserial.proofs.bits.put_chunk.Goals as goal

fits : (c : goal.After-power) → get_or c.args.words (c.args.at / 32) 0 + c.args.chunk * c.power.result < 2 ^ 32
fits c =
    let p = c.requires in
    let l : length c.args.words ≡ 3 = search rules in
    rw c.power.ensures (word_fits _ _ _ _ (omega arith) p.1 p.2 p.3)

pub overflow_cast-out : goal.overflow_cast-out
overflow_cast-out c = let h = fits c in record { fits = omega arith }

pub overflow_add-out : goal.overflow_add-out
overflow_add-out c = let h = fits c in record { fits = omega arith }

pub returns : goal.returns
returns c = let p = c.requires in
    let l : length c.args.words ≡ 3 = search rules in
    (rw c.power.ensures (chunk_put _ _ _ _ (omega arith) p.1 p.2 p.3), each_set _ _ _ _ p.4 (fits c))
