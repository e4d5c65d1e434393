use mathlib.Core.Path.{sym, ◌∙◌}
use Rattle.tight.proofs.CommandLaws.{info-rejected, used_low, bytes-behind, plain-taken}
use Rattle.tight.proofs.walk.command_takes.Goals as goal

pub returns-then-is_info : goal.returns-then-is_info
returns-then-is_info c = info-rejected c.requires.passed _ (sym c.is_info.ensures ∙ c.if-is_info.true)

pub elements_take-requires : goal.elements_take-requires
elements_take-requires c = let p = c.requires.passed in (
  p.present,
  sym c.is_info.ensures ∙ c.if-is_info.false,
  rw c.address_used-used.ensures (used_low p),
  bytes-behind p _ c.header_bytes-h.ensures.0,
)

pub returns : goal.returns
returns c = plain-taken c.requires.passed _ (sym c.is_info.ensures ∙ c.if-is_info.false) _ _
    c.address_used-used.ensures
    c.header_bytes-h.ensures.0
    _
    c.elements_take.ensures
