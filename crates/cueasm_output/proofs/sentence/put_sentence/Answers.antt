use Rattle.text.specs.Number.{ascii}
use Rattle.text.proofs.RoomLaws.{put_then}
use Rattle.cueasm_output.specs.Sentence.{sentence}
use Rattle.cueasm_output.proofs.sentence.put_sentence.Goals as goal

pub returns : goal.returns
unfolding sentence ascii
returns c = put_then _ _ _ _
    (put_then _ _ _ _
    (put_then _ _ _ _ (put_then _ _ _ _ c.numbered-at.ensures c.put-at.ensures) (rw c.word_of.ensures at c.put_quoted-at.ensures))
    (rw (c.words.ensures, c.fault_of-f.ensures) at c.put-at-2.ensures))
    c.put.ensures
