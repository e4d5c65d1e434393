use borrow.Author.Rules.{rules}
use mathlib.Core.Path.{◌≡◌}
use native.Mathlib.Omega.{arith}
use lib.ListN.{length}
use Rattle.sserial.proofs.BitLaws.{chunk_got}
use Rattle.sserial.proofs.bits.chunk_at.Goals as goal

pub returns : goal.returns
returns c = let p = c.requires in
    let l : length c.args.words ≡ 3 = search rules in
    rw (c.power-2.ensures, c.power.ensures) (chunk_got _ _ _ p.2 (omega arith) p.1)
