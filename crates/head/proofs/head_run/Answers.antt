use Rattle.head.proofs.ExportLaws.{ran-left, run_elements}
use Rattle.head.specs.Exports.{export_run}
use Rattle.head.proofs.ListingLaws.{verdict_numbers}
use Rattle.head.proofs.head_run.Goals as goal

pub returns : goal.returns
unfolding export_run
returns c = let ran = c.run_lent-ran.ensures in
    record {
      ran = ran-left _ _ _ _ _ _ ran.ran (verdict_numbers _ c.numbers_of-given.ensures);
      summed = run_elements _ _ _ _ _ _ _ _ _ ran.ran (verdict_numbers _ c.numbers_of-given.ensures) ran.summed;
      bounded = ran.bounded;
    }
