use mathlib.Core.Path.{sym, ◌∙◌}
use Rattle.cue.proofs.UntrustedLaws.{placed-within, put-kept, put_is}
use Rattle.cue.proofs.untrusted.put.Goals as goal

pub returns-then-outside : goal.returns-then-outside
returns-then-outside c = put-kept _ _ _ _ _ _
    c.record_at.ensures
    c.carried-n.ensures.0
    c.outside.ensures
    c.if-outside.true

pub put_record-requires : goal.put_record-requires
put_record-requires c = let (placed, whole) = placed-within _ _ _ _ (sym c.outside.ensures ∙ c.if-outside.false) in
    (placed, c.carried-n.ensures.1, whole)

pub returns : goal.returns
returns c = put_is _ _ _ _ _ _
    c.record_at.ensures
    c.carried-n.ensures.0
    c.outside.ensures _
    c.if-outside.false
    c.put_record.ensures
