use Rattle.head.proofs.TightenLaws.{tighten_left, tighten_eight, tighten_demand3}
use Rattle.head.proofs.ListingLaws.{compiled_numbers}
use Rattle.head.proofs.tight_exports.head_tighten.Goals as goal

pub returns : goal.returns
returns c = let s = c.tighten.ensures in
    let given = compiled_numbers _ c.numbers_of-given.ensures in
    record {
      tightened = tighten_left _ _ _ _ _ given s.tightened;
      eight = tighten_eight _ _ _ _ _ given s.eight;
      demand3 = tighten_demand3 _ _ _ _ _ given s.tightened;
    }
