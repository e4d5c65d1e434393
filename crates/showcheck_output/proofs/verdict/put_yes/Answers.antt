use native.Mathlib.Omega.{arith}
use Rattle.text.proofs.LineLaws.{cond-length}
use lib.Dec.{eqb}
use Rattle.text.specs.Number.{ascii}
use Rattle.showcheck_output.specs.Findings.{yes_text}
use Rattle.showcheck_output.proofs.verdict.put_yes.Goals as goal

pub returns : goal.returns
unfolding yes_text ascii
returns c = let b = c.put_between.ensures in
    let l = cond-length 27 (eqb c.args.n 0) (ascii " packets: nothing to judge\n") (ascii " packets\n") (omega arith) (omega arith) in
    let e = c.pick-t.ensures in
    record {
      room_after = rw e at b.room_after;
      fits = omega (arith, rw e at b.within);
    }
