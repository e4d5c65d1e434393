use Rattle.planner.proofs.WriteLaws.{found-few, found-counts, still_proposed, still-put}
use Rattle.planner.proofs.one_cell.one_cell.Goals as goal

pub returns : goal.returns
returns c = let few = found-few _ c.in_ok-count.was c.reads_of_one_cell.ensures.0 in
    let counts = found-counts _ c.in_ok-count.was c.reads_of_one_cell.ensures.1 in
    let w = c.word_of.ensures in
    let p = c.put_command.ensures in
    record {
      proposed = still_proposed _ _ few counts _ _ _ _ c.record_at-cell.ensures c.if-out-lt8.false w p;
      still = still-put _ _ few counts _ _ c.args.out.now _ c.record_at-cell.ensures c.if-out-lt8.false w p;
    }
