use Prim.Native.Nat.{◌^◌, ◌<◌}
use mathlib.Core.Path.{refl}
use borrow.Author.Rules.{rules}
use lib.ListN.{replicate}
use Rattle.text.proofs.DecimalLaws.{counting-first, counting_more, counting-all}
use Rattle.text.proofs.number.decimal.Goals as goal

pub loop-left-init : goal.loop-left-init
loop-left-init c = let b : c.args.n < 2 ^ 64 = search rules in
    counting-first _ (replicate 20 0) _ b refl c.last_code.ensures

pub loop-left-preserved : goal.loop-left-preserved
loop-left-preserved c = counting_more _ _ _ _ _ c.loop-left.invariant c.loop-left-test.true c.last_code-in-loop-left.ensures

pub returns : goal.returns
returns c = rw (counting-all _ _ _ _ c.loop-left.invariant c.loop-left-test.false) at c.put.ensures
