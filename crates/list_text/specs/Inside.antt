-- The inside of private functions' contracts.
use Rattle.std.specs.Prelude.{[], ◌∷◌, length}
use Rattle.lbp16.specs.Answer.{Answer}
use Rattle.cue.specs.Records.{Listed, refused, records}
use Rattle.list_text.specs.Written.{text_of}

-- what a list needs: the text's bytes and its lines, or the list's refusal
unfoldable pub text_needed : Listed → Answer
text_needed (refused n i) = Answer.refused n i
text_needed (records xs) = Answer.accepted (length (text_of xs) ∷ length xs ∷ [])
