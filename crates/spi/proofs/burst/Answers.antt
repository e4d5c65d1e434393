use Prim.Native.Nat.{◌-◌}
use mathlib.Core.Path.{sym, ◌∙◌, refl}
use native.Mathlib.Omega.{arith}
use lib.ListN.{length}
use Rattle.std.specs.Prelude.{Ok}
use Rattle.lbp16.proofs.RuleLaws.{rule_number_range}
use Rattle.packet.specs.Verdict.{verdict_listed}
use Rattle.packet.proofs.VerdictLaws.{refused_by, none_ruled}
use Rattle.spi.proofs.SpiLaws.{readied, ready-headed, burst-refused, burst-reads, burst-writes, burst-bounded}
use Rattle.spi.proofs.burst.Goals as goal

pub returns-in-Err : goal.returns-in-Err
returns-in-Err c =
    let told = burst-bounded _ _ _ _ _ _ _ (refused_by c.in-Err.rule 0 _ c.at.ensures)
    (burst-refused _ _ _ _ c.in-Err.ensures (λ z. omega (arith, rule_number_range c.in-Err.rule))) in
    record { left = told.0; bounded = told.1 }

-- past the test the burst is sound

pub overflow_sub-came : goal.overflow_sub-came
overflow_sub-came c =
    let passed = sym c.refusal_of.ensures ∙ none_ruled _ c.in_default.not-Err in
    omega (arith, ready-headed _ _ _ _ _ (readied passed c.header_of-h.ensures c.first_word.ensures c.stride_of-stride.ensures))

pub returns-then-h-eq-WRITE : goal.returns-then-h-eq-WRITE
unfolding verdict_listed
returns-then-h-eq-WRITE c =
    let passed = sym c.refusal_of.ensures ∙ none_ruled _ c.in_default.not-Err in
    let ready = readied passed c.header_of-h.ensures c.first_word.ensures c.stride_of-stride.ensures in
    let told = burst-bounded _ _ _ (Ok (length c.args.words.now - 1)) _ _ _ refl
    (burst-writes _ _ _ _ _ ready c.if-h-eq-WRITE.true _ _ c.write_cells.ensures.store_after c.write_cells.ensures.answer_after) in
    record { left = told.0; bounded = told.1 }

pub returns : goal.returns
unfolding verdict_listed
returns c =
    let passed = sym c.refusal_of.ensures ∙ none_ruled _ c.in_default.not-Err in
    let ready = readied passed c.header_of-h.ensures c.first_word.ensures c.stride_of-stride.ensures in
    let told = burst-bounded _ _ _ (Ok (length c.args.words.now - 1)) _ _ _ refl
    (burst-reads _ _ _ _ _ ready c.if-h-eq-WRITE.false _ c.read_cells.ensures) in
    record { left = told.0; bounded = told.1 }
