-- A list written as text is the same list: assembling the text gives it back.
use Rattle.std.specs.Prelude.{ℕ, ◌≡◌, List}
use Rattle.cue_text.specs.Assembled.{assembled, cues, list_of}
use Rattle.cue_text.specs.declared.line.Cue.{Cue}

-- assembling a text that was written from a list gives that list
pub record SameList (list text : List ℕ) : Type 0 where
  pub lines : List Cue
  pub text-lines : assembled text ≡ cues lines
  pub same : list_of lines ≡ list
