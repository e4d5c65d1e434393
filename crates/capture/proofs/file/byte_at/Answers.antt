use mathlib.Core.Path.{sym}
use native.Mathlib.Omega.{arith}
use lib.ListN.{get_or-eq_default}
use Rattle.capture.specs.File.{byte_at}
use borrow.Author.Rules.{rules}
use Rattle.capture.proofs.file.byte_at.Goals as goal

pub returns-then-s-at : goal.returns-then-s-at
unfolding byte_at
returns-then-s-at c = (sym (get_or-eq_default c.args.s.now 0 c.if-s-at.true), omega arith)

pub returns : goal.returns
unfolding byte_at
returns c = search rules
