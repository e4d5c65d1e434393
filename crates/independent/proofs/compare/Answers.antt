use Rattle.independent.proofs.AnswerLaws.{compared_is}
use Rattle.independent.proofs.compare.Goals as goal

pub first_clash-requires : goal.first_clash-requires
first_clash-requires c = let p = c.requires in (p.1, (c.mark.ensures _ p.0.list-records).bytes)

pub returns : goal.returns
returns c = let p = c.requires in
    compared_is _ _
    p.0
    p.1 _
    (c.first_clash.ensures _ _ (c.mark.ensures _ p.0.list-records) p.1.list-records)
