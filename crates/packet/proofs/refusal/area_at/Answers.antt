use borrow.Author.Rules.{rules}
use mathlib.Core.Path.{◌∙◌}
use native.Mathlib.Omega.{arith}
use Rattle.packet.proofs.ReachLaws.{cut_off}
use Rattle.packet.proofs.refusal.area_at.Goals as goal

pub returns-then-rest-header_bytes : goal.returns-then-rest-header_bytes
returns-then-rest-header_bytes c = c.judged_by.ensures _ _ _ _
    (c.fields_of-f.ensures ∙ c.requires.0)
    (cut_off _ _ _ _ _ _
    (let h = c.header_bytes.ensures.0 in omega arith)
    c.cut_off.ensures)

pub area_ruling-requires : goal.area_ruling-requires
area_ruling-requires c = let h = c.header_bytes.ensures.0 in search rules

pub returns : goal.returns
returns c = c.judged_by-2.ensures _ _ _ _
    (c.fields_of-f.ensures ∙ c.requires.0)
    c.area_ruling.ensures
