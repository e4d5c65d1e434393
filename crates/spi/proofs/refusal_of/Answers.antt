use mathlib.Core.Path.{refl, ap, ◌∙◌}
use borrow.Author.Tests.{eq-eqb, ne_eqb, le-ltb, lt-ltb}
use Rattle.packet.specs.Rules.{first}
use Rattle.spi.specs.Spi.{header_of, burst_refusals}
use Rattle.spi.proofs.refusal_of.Goals as goal

pub returns-then-store-answer : goal.returns-then-store-answer
unfolding first burst_refusals
returns-then-store-answer c = rw c.if-store-answer.true refl

pub returns-then-sent-eq0 : goal.returns-then-sent-eq0
unfolding first burst_refusals
returns-then-sent-eq0 c = rw (c.if-store-answer.false, eq-eqb _ _ c.if-sent-eq0.true) refl

pub returns-then-other_command : goal.returns-then-other_command
unfolding first burst_refusals
returns-then-other_command c =
    let h = c.header_of-h.ensures ∙ ap header_of c.first_word.ensures in
    rw (c.if-store-answer.false, ne_eqb _ _ c.if-sent-eq0.false, ← h, ← c.if-other_command.ensures) refl

pub returns-then-h-eq0 : goal.returns-then-h-eq0
unfolding first burst_refusals
returns-then-h-eq0 c =
    let h = c.header_of-h.ensures ∙ ap header_of c.first_word.ensures in
    rw (c.if-store-answer.false, ne_eqb _ _ c.if-sent-eq0.false, ← h, ← c.if-other_command.ensures, eq-eqb _ _ c.if-h-eq0.true) refl

pub returns-then-promised-sent : goal.returns-then-promised-sent
unfolding first burst_refusals
returns-then-promised-sent c =
    let h = c.header_of-h.ensures ∙ ap header_of c.first_word.ensures in
    rw (
      c.if-store-answer.false,
      ne_eqb _ _ c.if-sent-eq0.false,
      ← h,
      ← c.if-other_command.ensures,
      ne_eqb _ _ c.if-h-eq0.false,
      lt-ltb _ _ c.if-promised-sent.true,
    ) refl

pub returns-then-out_of_place : goal.returns-then-out_of_place
unfolding first burst_refusals
returns-then-out_of_place c =
    let h = c.header_of-h.ensures ∙ ap header_of c.first_word.ensures in
    rw (
      c.if-store-answer.false,
      ne_eqb _ _ c.if-sent-eq0.false,
      ← h,
      ← c.if-other_command.ensures,
      ne_eqb _ _ c.if-h-eq0.false,
      le-ltb _ _ c.if-promised-sent.false,
      ← c.if-out_of_place.ensures c.args.words.now,
    ) refl

pub returns : goal.returns
unfolding first burst_refusals
returns c =
    let h = c.header_of-h.ensures ∙ ap header_of c.first_word.ensures in
    rw (
      c.if-store-answer.false,
      ne_eqb _ _ c.if-sent-eq0.false,
      ← h,
      ← c.if-other_command.ensures,
      ne_eqb _ _ c.if-h-eq0.false,
      le-ltb _ _ c.if-promised-sent.false,
      ← c.if-out_of_place.ensures c.args.words.now,
    ) refl
