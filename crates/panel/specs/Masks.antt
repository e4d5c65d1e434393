-- Masks of the eight channels, as the channels that they name.
use Rattle.std.specs.Prelude.{ℕ, ◌/◌, ◌%◌, ◌^◌, List, [], ◌∷◌, Bool, true, false, not, ◌&&◌, cond, length, eqb, Result, Ok, Err}
use Rattle.lbp16.specs.Answer.{Answer, accepted, refused, refusal}
use Rattle.lbp16.specs.declared.Refusal.{Refusal}
use Rattle.panel.specs.declared.masks.Tally.{Tally}

unfoldable pub channels : List ℕ
channels = 0 ∷ 1 ∷ 2 ∷ 3 ∷ 4 ∷ 5 ∷ 6 ∷ 7 ∷ []

-- whether a mask names a channel
unfoldable pub names : ℕ → ℕ → Bool
names mask channel = eqb (mask / 2 ^ channel % 2) 1

-- those of which a test holds, lowest first
unfoldable pub those : (ℕ → Bool) → List ℕ → List ℕ
those test [] = []
those test (c ∷ cs) = cond (test c) (c ∷ those test cs) (those test cs)

unfoldable pub named : ℕ → List ℕ
named mask = those (names mask) channels

-- the first of them, 8 if there is none
unfoldable pub lowest : List ℕ → ℕ
lowest [] = 8
lowest (c ∷ cs) = c

unfoldable pub none : List ℕ → Bool
none [] = true
none (c ∷ cs) = false

-- asked for, and not started
unfoldable pub outside : ℕ → ℕ → ℕ → Bool
outside asked running channel = names asked channel && not (names running channel)

-- asked for, and failed
unfoldable pub fails : ℕ → ℕ → ℕ → Bool
fails asked faults channel = names asked channel && names faults channel

-- refusal 43
unfoldable pub started : ℕ → ℕ → Answer
started asked running = cond (none (those (outside asked running) channels)) (accepted (asked ∷ [])) (refused 43 0)

unfoldable pub start_listed : Result ℕ Refusal → Answer
start_listed (Ok m) = accepted (m ∷ [])
start_listed (Err r) = refusal r

-- how many were asked, how many failed, and the lowest of these
unfoldable pub tally_of : List ℕ → List ℕ → Tally
tally_of asked failed = record { asked = length asked; failed = length failed; lowest = lowest failed }

unfoldable pub reported : ℕ → ℕ → Tally
reported asked faults = tally_of (named asked) (those (fails asked faults) channels)
