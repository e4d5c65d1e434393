-- Inside of private functions' contracts. A reader need not believe these: laws tie them to the rest.
use Rattle.std.specs.Prelude.{ℕ}
use Rattle.lbp16.specs.Answer.{Answer}

-- a refusal, or 71 at this place where there is none
unfoldable pub instead_of : Answer → ℕ → Answer
instead_of (Answer.accepted values) place = Answer.refused 71 place
instead_of (Answer.refused n i) place = Answer.refused n i
