use mathlib.Core.Path.{◌∙◌}
use native.Mathlib.Omega.{arith}
use Rattle.packet.proofs.ReachLaws.{cut_off}
use Rattle.packet.proofs.refusal.register_at.Goals as goal

pub returns-then-rest-header_bytes : goal.returns-then-rest-header_bytes
returns-then-rest-header_bytes c o = c.judged_by.ensures _ o _ _
    (c.fields_of-f.ensures ∙ c.requires.0)
    (cut_off _ _ _ _ _ _
    (let h = c.header_bytes.ensures.0 in omega arith)
    c.cut_off.ensures)

pub register_ruling-requires : goal.register_ruling-requires
register_ruling-requires c = let p = c.requires in (
  p.2,
  rw c.fields_of-f.ensures p.1,
  let h = c.header_bytes.ensures.0 in omega arith,
)

pub returns : goal.returns
returns c o = c.judged_by-2.ensures _ o _ _
    (c.fields_of-f.ensures ∙ c.requires.0)
    (c.register_ruling.ensures o)
