use Rattle.text.specs.Find.{string_at}
use Rattle.text.proofs.FindLaws.{string_count}
use Rattle.text.proofs.find.string.Goals as goal

pub slice_bounds-result-end : goal.slice_bounds-result-end
slice_bounds-result-end c = string_count _ _ c.bytes_before-n.ensures

pub returns : goal.returns
unfolding string_at
returns c = rw (c.bytes_before-n.ensures, c.rest-text.ensures)
