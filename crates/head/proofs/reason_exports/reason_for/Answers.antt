use Rattle.head.proofs.ReasonExportLaws.{why-not_eight, why-eight, listed_or}
use Rattle.head.proofs.reason_exports.reason_for.Goals as goal

pub returns-then-pointers-ne8 : goal.returns-then-pointers-ne8
returns-then-pointers-ne8 c = why-not_eight _ _ _ c.if-pointers-ne8.true _ c.no_command.ensures

pub returns : goal.returns
returns c = why-eight _ _ _ c.if-pointers-ne8.false _ _ c.from_lent-p.ensures
    (rw (c.unwrap_or.ensures, c.no_command-2.ensures, listed_or) c.explain.ensures.explained)
