use native.Mathlib.Omega.{arith}
use Rattle.cue_text.proofs.NumberLaws.{hex_short, hex_two}
use Rattle.cue_text.proofs.number.is_hex.Goals as goal

pub returns-then-word-lt2 : goal.returns-then-word-lt2
returns-then-word-lt2 c = hex_short _ c.if-word-lt2.true

pub returns : goal.returns
returns c = hex_two _ (omega arith)
