use native.Mathlib.Omega.{arith}
use mathlib.Core.Path.{◌≡◌, refl}
use Rattle.packet.specs.Rules.{first}
use Rattle.spi.specs.Spi.{header_listed, header_word}
use Rattle.spi.proofs.SpiLaws.{header_rules, header-number, command_fits, header_refused_by, header-accepted}
use Rattle.spi.proofs.header_word.Goals as goal

pub returns-then-other_command : goal.returns-then-other_command
returns-then-other_command c = header_refused_by c.args.h _ _ c.at.ensures (rw (header-number, ← c.if-other_command.ensures) refl)

pub returns-then-h : goal.returns-then-h
returns-then-h c = header_refused_by c.args.h _ _ c.at-then-h.ensures (rw (header-number, ← c.if-other_command.ensures, c.if-h.true) refl)

pub overflow_add-result : goal.overflow_add-result
overflow_add-result c = omega (arith, command_fits c.args.h c.if-other_command.ensures c.if-h.false)

pub overflow_add-result-2 : goal.overflow_add-result-2
overflow_add-result-2 c = omega (arith, command_fits c.args.h c.if-other_command.ensures c.if-h.false)

pub overflow_add-result-3 : goal.overflow_add-result-3
overflow_add-result-3 c = omega (arith, command_fits c.args.h c.if-other_command.ensures c.if-h.false)

pub returns : goal.returns
unfolding header_listed header_word
returns c =
    let none : first (header_rules c.args.h) ≡ 0 = rw (header-number, ← c.if-other_command.ensures, c.if-h.false) refl in
    rw (header-accepted _ none, c.increment_bit.ensures.0) refl
