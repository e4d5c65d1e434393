use mathlib.Core.Path.{◌∙◌, ap}
use Rattle.lbp16.specs.Pointer.{of_space}
use Rattle.lbp16.proofs.CaseLaws.{space_is}
use Rattle.lbp16.proofs.pointer.SpacePointers.of.Goals as goal

pub returns-in-Registers : goal.returns-in-Registers
unfolding of_space
returns-in-Registers c = ap (of_space c.args.self) (space_is _ c.from.ensures c.in-Registers.is)

pub returns-in-Eeprom : goal.returns-in-Eeprom
unfolding of_space
returns-in-Eeprom c = ap (of_space c.args.self) (space_is _ c.from.ensures c.in-Eeprom.is)

pub returns-in-Status : goal.returns-in-Status
unfolding of_space
returns-in-Status c = ap (of_space c.args.self) (space_is _ c.from.ensures c.in-Status.is)

pub returns-in-Information : goal.returns-in-Information
unfolding of_space
returns-in-Information c = ap (of_space c.args.self) (space_is _ c.from.ensures c.in-Information.is)

pub returns-in-Absent : goal.returns-in-Absent
unfolding of_space
returns-in-Absent c = c.new.ensures ∙ ap (of_space c.args.self) (space_is _ c.from.ensures c.in-Absent.is)
