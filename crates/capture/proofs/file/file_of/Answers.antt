use mathlib.Core.Path.{sym, ap, ◌∙◌}
use Rattle.capture.specs.File.{File}
use Rattle.capture.proofs.FileLaws.{file-read}
use Rattle.capture.proofs.file.file_of.Goals as goal

pub returns-then-good : goal.returns-then-good
returns-then-good c = let e = file-read _ _ _ _ _ _ _
    c.number_in.ensures
    c.is_magic-big.ensures
    c.number_in-2.ensures
    c.is_magic-little.ensures
    c.number_in-link.ensures
    c.is_link.ensures in
    rw c.if-good.true at e

pub returns-else-good : goal.returns-else-good
returns-else-good c = let e = file-read _ _ _ _ _ _ _
    c.number_in.ensures
    c.is_magic-big.ensures
    c.number_in-2.ensures
    c.is_magic-little.ensures
    c.number_in-link.ensures
    c.is_link.ensures in
    ap (λ (f : File). f.good) (sym e) ∙ c.if-good.false
