use mathlib.Core.Path.{ap, ◌∙◌}
use Rattle.independent.specs.Inside.{marked_by}
use Rattle.independent.proofs.MarkLaws.{byte-again}
use Rattle.independent.proofs.marks.marked_in.Goals as goal

pub returns : goal.returns
returns c = byte-again _ _ _ _ _ _ _ _
    (c.marked-mark.ensures.0 ∙ ap (λ old. marked_by old c.args.write) c.mark_in.ensures.0)
    c.picked-a.ensures.0
    c.picked-b.ensures.0
    c.picked-c.ensures.0
    c.picked-d.ensures.0
