use mathlib.Core.Path.{sym}
use borrow.Author.Tests.{not-true}
use Rattle.lbp16.proofs.BoolLaws.{and_true}
use Rattle.cue.proofs.records.record_refusal.Goals as goal

pub returns-then-plain_register-index : goal.returns-then-plain_register-index
returns-then-plain_register-index c = let t = and_true _ _ c.if-plain_register-index.true in sym (c.plain_register.ensures t.0 _ (not-true _ t.1))
