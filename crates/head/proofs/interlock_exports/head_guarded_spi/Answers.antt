use Rattle.head.specs.InterlockExports.{export_guarded_spi}
use Rattle.interlock.proofs.SparedLaws.{burst_spares}
use Rattle.head.proofs.ExportLaws.{spi_left_lem}
use Rattle.head.proofs.ListingLaws.{verdict_numbers}
use Rattle.head.proofs.interlock_exports.head_guarded_spi.Goals as goal

pub returns : goal.returns
unfolding export_guarded_spi
returns c = let left = c.burst.ensures.left in
    record {
      left = spi_left_lem _ _ _ _ _ left (verdict_numbers _ c.numbers_of-given.ensures);
      spared = burst_spares _ _ _ _ _ _ _ left;
    }
