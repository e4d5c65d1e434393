use mathlib.Core.Path.{◌∙◌, ap}
use Rattle.lbp16.specs.Space.{row}
use Rattle.lbp16.proofs.CaseLaws.{space_is}
use Rattle.lbp16.proofs.space.row_of.Goals as goal

pub returns-in-Registers : goal.returns-in-Registers
unfolding row
returns-in-Registers c = c.line.ensures ∙ ap row (space_is _ c.from.ensures c.in-Registers.is)

pub returns-in-Eeprom : goal.returns-in-Eeprom
unfolding row
returns-in-Eeprom c = c.line-in-Eeprom.ensures ∙ ap row (space_is _ c.from.ensures c.in-Eeprom.is)

pub returns-in-Status : goal.returns-in-Status
unfolding row
returns-in-Status c = c.line-in-Status.ensures ∙ ap row (space_is _ c.from.ensures c.in-Status.is)

pub returns-in-Information : goal.returns-in-Information
unfolding row
returns-in-Information c = c.line-in-Information.ensures ∙ ap row (space_is _ c.from.ensures c.in-Information.is)

pub returns-in-Absent : goal.returns-in-Absent
unfolding row
returns-in-Absent c = c.line-in-Absent.ensures ∙ ap row (space_is _ c.from.ensures c.in-Absent.is)
