use Rattle.cue.specs.Compile.{left}
use Rattle.planner.proofs.TightenLaws.{answered-ok, answered-err, taken_tightened, taken-eight, own_tightened, own-eight}
use Rattle.planner.proofs.improved.Goals as goal

pub returns-in-Ok : goal.returns-in-Ok
returns-in-Ok c = let o = c.propose_within-n.new.out in
    let a = answered-ok _ _ c.check.ensures.checked _ c.in-Ok.is in
    record {
      tightened = taken_tightened _ _ _ c.requires.0 c.requires.1 o _ _ a c.propose_within-n.ensures.proposed c.propose_within-n.auto.out;
      eight = taken-eight _ _ _ c.requires.0 c.requires.1 o _ _ a c.propose_within-n.ensures.still;
    }

pub returns-in-Err : goal.returns-in-Err
unfolding left
returns-in-Err c = let o = c.propose_within-n.new.out in
    let k = c.compile.ensures.compiled in
    let no_answer = answered-err _ _ c.check.ensures.checked _ c.in-Err.is in
    record {
      tightened = own_tightened _ _ _ c.requires.0 c.requires.1 o _ _ k c.propose_within-n.ensures.proposed c.propose_within-n.auto.out;
      eight = own-eight _ _ _ c.requires.0 c.requires.1 o _ _ k c.propose_within-n.ensures.still no_answer;
    }
