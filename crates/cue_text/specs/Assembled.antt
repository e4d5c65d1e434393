-- A text assembled into a cue list.
use Rattle.std.specs.Prelude.{ℕ, suc, List, [], ◌∷◌, ◌++◌, map, cond, length, drop, ltb, Result, Ok, Err}
use Rattle.lbp16.specs.Answer.{Answer, refusal}
use Rattle.packet.specs.Step.{Step}
use Rattle.cue.specs.Packing.{join_all}
use Rattle.cue_text.specs.Words.{lines_of}
use Rattle.cue_text.specs.Text.{Name, Meaning, refused, nothing, defines, does, line_meaning, bytes_of_cue, step_of}
use Rattle.cue_text.specs.declared.line.Cue.{Cue}
use Rattle.cue_text.specs.declared.Written.{Written}
use Rattle.lbp16.specs.declared.Refusal.{Refusal}

-- A text's records, or the refusal of its earliest bad line.
pub data Assembled : Type 0 where
  bad : ℕ → ℕ → Assembled
  cues : List Cue → Assembled

unfoldable pub with_cue : Cue → Assembled → Assembled
with_cue c (bad n line) = bad n line
with_cue c (cues cs) = cues (c ∷ cs)

-- names and records above the next line
unfoldable pub known_after : Meaning → List Name → List Name
known_after (refused n) known = known
known_after nothing known = known
known_after (defines x) known = known ++ (x ∷ [])
known_after (does c) known = known

unfoldable pub index_after : Meaning → ℕ → ℕ
index_after (refused n) index = index
index_after nothing index = index
index_after (defines x) index = index
index_after (does c) index = suc index

-- a line in front of what those below it give
unfoldable pub with_line : Meaning → ℕ → Assembled → Assembled
with_line (refused n) line below = bad n line
with_line nothing line below = below
with_line (defines x) line below = below
with_line (does c) line below = with_cue c below

unfoldable pub assembled_from : List Name → ℕ → ℕ → List (List ℕ) → Assembled
assembled_from known index line [] = cues []
assembled_from known index line (l ∷ ls) =
    let m = line_meaning known index l in
    with_line m line (assembled_from (known_after m known) (index_after m index) (suc line) ls)

-- lines are counted from 1
unfoldable pub assembled : List ℕ → Assembled
assembled text = assembled_from [] 0 1 (lines_of text)

-- the list, and what doing its lines one by one does
unfoldable pub list_of : List Cue → List ℕ
list_of cs = join_all (map bytes_of_cue cs)

unfoldable pub steps_of : List Cue → List Step
steps_of cs = map step_of cs

-- What is answered, and left in the room.
pub record Left : Type 0 where
  pub answer : Answer
  pub room : List ℕ

-- Refusal 26, or the bytes at the front of the room. `count` is how many records or lines they are.
unfoldable pub placed : List ℕ → ℕ → List ℕ → Left
placed bytes count room =
    cond (ltb (length room) (length bytes))
    (record { answer = Answer.refused 26 (length bytes); room = room })
    (record { answer = Answer.accepted (length bytes ∷ count ∷ []); room = bytes ++ drop (length bytes) room })

unfoldable pub assembled_to : Assembled → List ℕ → Left
assembled_to (bad n line) room = record { answer = Answer.refused n line; room = room }
assembled_to (cues cs) room = placed (list_of cs) (length cs) room

unfoldable pub text_assembled : List ℕ → List ℕ → Left
text_assembled text room = assembled_to (assembled text) room

-- an answer of the code as the papers list it
unfoldable pub text_listed : Result Written Refusal → Answer
text_listed (Ok w) = Answer.accepted (w.bytes ∷ w.count ∷ [])
text_listed (Err r) = refusal r

unfoldable pub left : Result Written Refusal → List ℕ → Left
left a room = record { answer = text_listed a; room = room }
