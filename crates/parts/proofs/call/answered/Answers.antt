use mathlib.Core.Path.{refl}
use Rattle.packet.specs.Verdict.{verdict_listed}
use Rattle.parts.proofs.CallLaws.{answer-refused, answer-written}
use Rattle.parts.proofs.call.answered.Goals as goal

pub fault_of-requires : goal.fault_of-requires
fault_of-requires c = record { known = c.requires.known; within = c.requires.stands }

pub returns-in-Some : goal.returns-in-Some
returns-in-Some c =
    let e = c.in-Some.ensures in
    (answer-refused _ _ _ _ e.0 e.1 _ c.at.ensures, refl)

pub returns-in-None : goal.returns-in-None
unfolding verdict_listed
returns-in-None c = (answer-written _ _ _ c.in-None.ensures, refl)
