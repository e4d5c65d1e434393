use native.Mathlib.Omega.{arith}
use Rattle.text.specs.Number.{ascii}
use Rattle.showcheck_output.proofs.LengthLaws.{said-room}
use Rattle.showcheck_output.specs.Findings.{verdict_text}
use Rattle.showcheck_output.proofs.verdict.put_verdict.Goals as goal

-- a lemma's facts, as the clauses have names
named2 : {A B R : Type 0} → (A → B → R) → A × B → R
named2 f h = f h.0 h.1

pub returns-in-Yes : goal.returns-in-Yes
unfolding verdict_text ascii
returns-in-Yes c = named2 (λ h0 h1. record { room_after = h0; fits = h1 })
    (rw c.in-Yes.is (c.put_yes.ensures.room_after, omega (arith, c.put_yes.ensures.fits)))

pub returns-in-Refused : goal.returns-in-Refused
unfolding verdict_text ascii
returns-in-Refused c = let a = c.args in
    named2 (λ h0 h1. record { room_after = h0; fits = h1 }) (rw c.in-Refused.is (c.put_said.ensures, said-room _ a.store.now a.p))

pub returns-in-BadPacket : goal.returns-in-BadPacket
unfolding verdict_text ascii
returns-in-BadPacket c = named2 (λ h0 h1. record { room_after = h0; fits = h1 })
    (rw c.in-BadPacket.is (c.put_bad_packet.ensures.room_after, c.put_bad_packet.ensures.fits))

pub returns-in-BadLength : goal.returns-in-BadLength
unfolding verdict_text ascii
returns-in-BadLength c = named2 (λ h0 h1. record { room_after = h0; fits = h1 })
    (rw c.in-BadLength.is (c.put_fault.ensures.room_after, omega (arith, c.put_fault.ensures.within)))

pub returns-in-BadByte : goal.returns-in-BadByte
unfolding verdict_text ascii
returns-in-BadByte c = named2 (λ h0 h1. record { room_after = h0; fits = h1 })
    (rw c.in-BadByte.is (c.put_bad_byte.ensures.room_after, omega (arith, c.put_bad_byte.ensures.fits)))

pub returns-in-Cut : goal.returns-in-Cut
unfolding verdict_text ascii
returns-in-Cut c = named2 (λ h0 h1. record { room_after = h0; fits = h1 })
    (rw c.in-Cut.is (c.put_fault-in-Cut.ensures.room_after, omega (arith, c.put_fault-in-Cut.ensures.within)))

pub returns-in-Unmarked : goal.returns-in-Unmarked
unfolding verdict_text ascii
returns-in-Unmarked c = named2 (λ h0 h1. record { room_after = h0; fits = h1 })
    (rw c.in-Unmarked.is (c.put_fault-in-Unmarked.ensures.room_after, omega (arith, c.put_fault-in-Unmarked.ensures.within)))
