use mathlib.Core.Path.{ap}
use Rattle.lbp16.specs.Pointer.{with_space}
use Rattle.lbp16.proofs.CaseLaws.{space_is}
use Rattle.lbp16.proofs.pointer.SpacePointers.with.Goals as goal

pub returns-in-Registers : goal.returns-in-Registers
unfolding with_space
returns-in-Registers c = ap (λ s. with_space c.args.self s c.args.p.at) (space_is _ c.from.ensures c.in-Registers.is)

pub returns-in-Eeprom : goal.returns-in-Eeprom
unfolding with_space
returns-in-Eeprom c = ap (λ s. with_space c.args.self s c.args.p.at) (space_is _ c.from.ensures c.in-Eeprom.is)

pub returns-in-Status : goal.returns-in-Status
unfolding with_space
returns-in-Status c = ap (λ s. with_space c.args.self s c.args.p.at) (space_is _ c.from.ensures c.in-Status.is)

pub returns-in-Information : goal.returns-in-Information
unfolding with_space
returns-in-Information c = ap (λ s. with_space c.args.self s c.args.p.at) (space_is _ c.from.ensures c.in-Information.is)

pub returns-in-Absent : goal.returns-in-Absent
unfolding with_space
returns-in-Absent c = ap (λ s. with_space c.args.self s c.args.p.at) (space_is _ c.from.ensures c.in-Absent.is)
