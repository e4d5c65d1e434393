-- The verdict as the papers list it.
use Rattle.std.specs.Prelude.{ℕ, [], ◌∷◌, Result, Ok, Err}
use Rattle.lbp16.specs.Answer.{Answer, refusal}
use Rattle.packet.specs.Step.{reply_bytes}
use Rattle.packet.specs.Judge.{refused, accepted}
use Rattle.packet.specs.Judge
use Rattle.lbp16.specs.declared.Refusal.{Refusal}

-- the reply length, or the refusal
unfoldable pub answer_to : Judge.Verdict → Answer
answer_to (refused n place) = Answer.refused n place
answer_to (accepted c) = Answer.accepted (reply_bytes c.steps ∷ [])

-- the check's answer: its number and values, for each case
unfoldable pub verdict_listed : Result ℕ Refusal → Answer
verdict_listed (Ok n) = Answer.accepted (n ∷ [])
verdict_listed (Err r) = refusal r
