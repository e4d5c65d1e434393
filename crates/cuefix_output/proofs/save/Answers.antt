use Rattle.salvage.proofs.SalvageLaws.{parts}
use Rattle.cuefix_output.proofs.AccountLaws.{list-saved}
use Rattle.cuefix_output.proofs.save.Goals as goal

pub returns : goal.returns
returns c = let p = (parts c.salvage.ensures).1 in
    list-saved _ _ _ c.requires _ _ _ c.count-counts.ensures p.0 p.1
