use mathlib.Core.Path.{ap, ◌∙◌}
use Rattle.salvage.specs.Salvage.{size_at}
use Rattle.salvage.proofs.SpanLaws.{size_is}
use Rattle.cuefix_output.proofs.lines.size_at.Goals as goal

pub returns : goal.returns
returns c = size_is _ _ _ c.record_at-r.ensures c.record_bytes.ensures.0 ∙ ap size_at c.rest.ensures
