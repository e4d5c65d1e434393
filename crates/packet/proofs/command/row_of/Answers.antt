use mathlib.Core.Path.{ap, ◌∙◌}
use Rattle.lbp16.specs.Space.{space_of, area_row}
use Rattle.packet.specs.Step.{row_by}
use Rattle.packet.specs.Command.{row_of}
use Rattle.packet.proofs.command.row_of.Goals as goal

pub returns : goal.returns
unfolding row_of row_by
returns c = c.area_row.ensures ∙ ap (λ i. area_row i (space_of c.args.f.space)) c.is_info.ensures
