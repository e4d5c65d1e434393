use native.Mathlib.Omega.{arith}
use borrow.Author.Tests.{lt-ltb, le-ltb, eq-eqb, ne_eqb}
use Rattle.text.specs.Number.{ascii}
use Rattle.text.proofs.RoomLaws.{put_then}
use Rattle.text.specs.Line.{too_long_line}
use Rattle.showcheck_output.specs.Input.{unread_text}
use Rattle.showcheck_output.proofs.HeardLaws.{refusal-length}
use Rattle.showcheck_output.proofs.heard.put_unread.Goals as goal

-- a lemma's facts, as the clauses have names
named2 : {A B R : Type 0} → (A → B → R) → A × B → R
named2 f h = f h.0 h.1

pub returns-then-number-lt91 : goal.returns-then-number-lt91
unfolding unread_text too_long_line ascii
returns-then-number-lt91 c = named2 (λ h0 h1. record { room_after = h0; fits = h1 }) (rw (lt-ltb _ 91 c.if-number-lt91.true) (c.too_long.ensures, omega arith))

pub returns-then-number-eq91 : goal.returns-then-number-eq91
unfolding unread_text ascii
returns-then-number-eq91 c = named2 (λ h0 h1. record { room_after = h0; fits = h1 })
    (rw (le-ltb _ 91 c.if-number-lt91.false, eq-eqb _ 91 c.if-number-eq91.true) (c.put.ensures, omega arith))

pub returns : goal.returns
unfolding unread_text ascii
returns c = let p = put_then _ _ _ _ (put_then _ _ _ _ (put_then _ _ _ _ c.numbered-next.ensures c.numbered-next-2.ensures) c.put-next.ensures)
    c.put_sentence.ensures in
    named2 (λ h0 h1. record { room_after = h0; fits = h1 }) (rw (le-ltb _ 91 c.if-number-lt91.false, ne_eqb _ 91 c.if-number-eq91.false)
    (p, refusal-length c.args.number c.args.place (omega (arith, c.ranges.number)) (omega (arith, c.ranges.place))))
