use mathlib.Core.Path.{ap}
use native.Mathlib.Omega.{arith}
use Rattle.lbp16.specs.Pointer.{space_slot}
use Rattle.lbp16.proofs.CaseLaws.{space_is}
use Rattle.lbp16.proofs.pointer.space_slot.Goals as goal

pub returns-in-Registers : goal.returns-in-Registers
unfolding space_slot
returns-in-Registers c = (ap space_slot (space_is _ c.from.ensures c.in-Registers.is), omega arith)

pub returns-in-Eeprom : goal.returns-in-Eeprom
unfolding space_slot
returns-in-Eeprom c = (ap space_slot (space_is _ c.from.ensures c.in-Eeprom.is), omega arith)

pub returns-in-Status : goal.returns-in-Status
unfolding space_slot
returns-in-Status c = (ap space_slot (space_is _ c.from.ensures c.in-Status.is), omega arith)

pub returns-in-Information : goal.returns-in-Information
unfolding space_slot
returns-in-Information c = (ap space_slot (space_is _ c.from.ensures c.in-Information.is), omega arith)

pub returns-in-Absent : goal.returns-in-Absent
unfolding space_slot
returns-in-Absent c = (ap space_slot (space_is _ c.from.ensures c.in-Absent.is), omega arith)
