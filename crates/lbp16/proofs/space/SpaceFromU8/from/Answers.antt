use borrow.Author.Rules.{rules}
use Rattle.lbp16.proofs.CaseLaws.{at-registers, at_eeprom, at-status, at_information, at_absent}
use Rattle.lbp16.proofs.space.SpaceFromU8.from.Goals as goal

pub returns-in-0 : goal.returns-in-0
returns-in-0 c = at-registers (λ s. s) _ c.in-0.is

pub returns-in-2 : goal.returns-in-2
returns-in-2 c = at_eeprom (λ s. s) _ c.in-2.is

pub returns-in-6 : goal.returns-in-6
returns-in-6 c = at-status (λ s. s) _ c.in-6.is

pub returns-in-7 : goal.returns-in-7
returns-in-7 c = at_information (λ s. s) _ c.in-7.is

pub returns-in_default : goal.returns-in_default
returns-in_default c = at_absent (λ s. s) _ (search rules) (search rules) (search rules) (search rules)
