use Rattle.text.specs.Number.{ascii}
use Rattle.showcheck_output.specs.Input.{frame_sentence}
use Rattle.showcheck_output.proofs.heard.put_sentence.Goals as goal

pub returns : goal.returns
unfolding frame_sentence ascii
returns c = let a = c.pick-t.ensures in
    let b = rw a at c.pick-t-2.ensures in
    rw b at c.put.ensures
