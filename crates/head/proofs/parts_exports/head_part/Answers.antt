use Rattle.head.specs.PartsExports.{export_part}
use Rattle.head.proofs.PartsExportLaws.{part_left_lem}
use Rattle.head.proofs.ListingLaws.{verdict_numbers}
use Rattle.head.proofs.parts_exports.head_part.Goals as goal

pub returns : goal.returns
unfolding export_part
returns c = let done = c.compile_part-done.ensures in
    record {
      compiled = part_left_lem _ _ _ _ _ _ done.compiled (verdict_numbers _ c.numbers_of-given.ensures);
      promise = done.promise;
    }
