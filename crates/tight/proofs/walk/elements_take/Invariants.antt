use Rattle.tight.proofs.ElementsLaws.{Elements}
use Rattle.tight.proofs.walk.elements_take.Given as goal

abbrev pub invariant-loop : goal.invariant-loop
invariant-loop l = Elements l.f l.used l.data l.list l.step l.element l.taken l.address l.at l.counter
