use Rattle.cue_text.proofs.NumberLaws.{Reading}
use Rattle.cue_text.proofs.number.digits.Given as goal

abbrev pub invariant-loop-c : goal.invariant-loop-c
invariant-loop-c l = Reading l.word l.base l.n l.c-index
