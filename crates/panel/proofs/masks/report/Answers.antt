use mathlib.Core.Path.{ap, ◌∙◌}
use Rattle.panel.specs.Masks.{named, tally_of, reported}
use Rattle.panel.proofs.MaskLaws.{failed_named}
use Rattle.panel.proofs.masks.report.Goals as goal

pub returns : goal.returns
unfolding reported
returns c = let a = c.args.asked in
    c.tally_of.ensures ∙ ap (tally_of (named a)) (failed_named a c.args.faults)
