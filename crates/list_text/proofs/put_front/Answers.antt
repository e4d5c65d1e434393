use mathlib.Core.Path.{◌∙◌}
use Rattle.text.specs.Number.{ascii}
use Rattle.text.proofs.RoomLaws.{put_then}
use Rattle.list_text.proofs.WriteLaws.{kind-word_is}
use Rattle.list_text.proofs.put_front.Goals as goal

pub returns : goal.returns
unfolding ascii
returns c = let a = c.args in
    put_then _ _ _ _ (put_then _ _ _ _ (rw (c.pick.ensures ∙ kind-word_is a.r.write) at c.put-at.ensures) c.put_word-at.ensures)
    c.put_number.ensures
