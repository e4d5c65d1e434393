use mathlib.Core.Path.{sym}
use native.Mathlib.Omega.{arith}
use lib.Seq.{length-take-le}
use Rattle.text.specs.Number.{ascii}
use Rattle.text.proofs.RoomLaws.{put_then}
use Rattle.cueasm_output.specs.Sentence.{quoted}
use Rattle.cueasm_output.proofs.SentenceLaws.{first-bytes}
use Rattle.cueasm_output.proofs.sentence.put_quoted.Goals as goal

pub slice_bounds-put_shown-end : goal.slice_bounds-put_shown-end
slice_bounds-put_shown-end c = sym (length-take-le _ _ (omega (arith, c.least-n.ensures)))

pub returns : goal.returns
unfolding quoted ascii
returns c = let a = c.args in
    put_then _ _ _ _ (put_then _ _ _ _ c.put-at.ensures (rw (first-bytes a.word.now _ c.least-n.ensures) at c.put_shown-at.ensures))
    c.put.ensures
