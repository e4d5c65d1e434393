use Rattle.list_text.proofs.WriteLaws.{value-four, value-two}
use Rattle.list_text.proofs.put_value.Goals as goal

pub returns-then-space-eq0 : goal.returns-then-space-eq0
returns-then-space-eq0 c = let e = value-four c.args.space _ c.args.rest.now c.requires c.pair_at-low.ensures _ c.pair_at-high.ensures c.if-space-eq0.true in
    rw e at c.put_number.ensures

pub returns : goal.returns
returns c = rw (value-two c.args.space _ c.args.rest.now c.requires c.pair_at-low.ensures c.if-space-eq0.false) at c.put_number-2.ensures
