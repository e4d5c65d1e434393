use native.Mathlib.Omega.{arith}
use Rattle.text.proofs.FindLaws.{before-within}
use Rattle.cue_text.specs.Inside.{line_bytes}
use Rattle.cue_text.proofs.walk.line_bytes.Goals as goal

pub returns-then-n-rest : goal.returns-then-n-rest
unfolding line_bytes
returns-then-n-rest c = let e = c.bytes_before-n.ensures in omega arith

pub returns : goal.returns
unfolding line_bytes
returns c = let e = c.bytes_before-n.ensures in let h = before-within 10 c.args.rest.now in omega arith
