use Rattle.head.specs.InterlockExports.{export_guarded_run}
use Rattle.interlock.proofs.SparedLaws.{run_spares}
use Rattle.head.proofs.ExportLaws.{ran-left}
use Rattle.head.proofs.ListingLaws.{verdict_numbers}
use Rattle.head.proofs.interlock_exports.head_guarded_run.Goals as goal

pub returns : goal.returns
unfolding export_guarded_run
returns c = let ran = c.run-ran.ensures in
    record {
      ran = ran-left _ _ _ _ _ _ ran.ran (verdict_numbers _ c.numbers_of-given.ensures);
      bounded = ran.bounded;
      spared = run_spares _ _ _ _ _ _ _ _ _ ran.ran;
    }
