use native.Mathlib.Omega.{arith}
use Rattle.text.proofs.HexLaws.{no_digit, shifted-digit}
use Rattle.text.proofs.number.digit_at.Goals as goal

pub returns-then-k-gt15 : goal.returns-then-k-gt15
returns-then-k-gt15 c = no_digit _ _ (omega (arith, c.ranges.n)) c.if-k-gt15.true

pub returns : goal.returns
returns c = shifted-digit _ _
