use lib.ListN.{get_or-eq_default}
use Rattle.list_reason.proofs.CauseLaws.{value-spare, value-wide}
use Rattle.list_reason.proofs.value_cause.Goals as goal

pub returns-then-rest-le3 : goal.returns-then-rest-le3
returns-then-rest-le3 c = let rest = c.args.rest.now in
    λ index e. value-wide index rest e (get_or-eq_default rest 0 c.if-rest-le3.true)

pub returns-then-rest-ne0 : goal.returns-then-rest-ne0
returns-then-rest-ne0 c = λ index e. value-spare index _ e c.if-rest-ne0.true

pub returns-else-rest-ne0 : goal.returns-else-rest-ne0
returns-else-rest-ne0 c = λ index e. value-wide index _ e c.if-rest-ne0.false
