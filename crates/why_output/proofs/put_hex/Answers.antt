use mathlib.Core.Path.{◌≡◌}
use lib.ListN.{length}
use native.Mathlib.Omega.{arith}
use Rattle.why_output.specs.Whole.{hex_text}
use Rattle.why_output.proofs.HexLaws.{read-bad, read_whole}
use borrow.Author.Rules.{rules}
use Rattle.why_output.proofs.put_hex.Goals as goal

pub returns-in-Err : goal.returns-in-Err
unfolding hex_text
returns-in-Err c = rw (read-bad _ _ _ _ (rw c.in-Err.is at c.read-found.ensures)) c.put_bad.ensures

pub returns-in-Ok : goal.returns-in-Ok
unfolding hex_text
returns-in-Ok c = let l : length c.args.bytes.now ≡ 1500000 = search rules in
    rw (read_whole _ _ _ _ (rw c.in-Ok.is at c.read-found.ensures) (omega (arith, c.requires)))
    (rw c.front.ensures at c.put_bytes.ensures)
