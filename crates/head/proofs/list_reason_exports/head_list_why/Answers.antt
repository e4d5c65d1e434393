use Rattle.head.proofs.list_reason_exports.head_list_why.Goals as goal

pub returns-in-None : goal.returns-in-None
returns-in-None c = let e = c.why-fault.ensures in
    record {
      why = rw c.in-None.is at e.why;
      caused = rw c.in-None.is at e.caused;
      front = rw c.in-None.is at e.front;
    }

pub returns-in-Some : goal.returns-in-Some
returns-in-Some c = let e = c.why-fault.ensures in
    record {
      why = rw (c.in-Some.is, ← c.number.ensures, ← c.cause_number.ensures) at e.why;
      caused = rw (c.in-Some.is, ← c.number.ensures, ← c.cause_number.ensures) at e.caused;
      front = rw (c.in-Some.is, ← c.number.ensures) at e.front;
    }
