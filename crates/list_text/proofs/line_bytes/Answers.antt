use native.Mathlib.Omega.{arith}
use borrow.Author.Tests.{not-true, not-false}
use Rattle.list_text.proofs.WriteLaws.{read-bytes, write-four, write_two}
use Rattle.list_text.proofs.line_bytes.Goals as goal

pub returns-then-not-r : goal.returns-then-not-r
returns-then-not-r c = let w = c.word_bytes-read.ensures in
    (λ x e plain there. read-bytes _ x e plain _ w.0 (not-true _ c.if-not-r.true), omega (arith, w.1))

pub returns-then-r-eq0 : goal.returns-then-r-eq0
returns-then-r-eq0 c = let w = c.word_bytes-read.ensures in
    (λ x e plain there. write-four _ x e plain _ w.0 (not-false _ c.if-not-r.false) c.if-r-eq0.true, omega (arith, w.1))

pub returns-else-r-eq0 : goal.returns-else-r-eq0
returns-else-r-eq0 c = let w = c.word_bytes-read.ensures in
    (λ x e plain there. write_two _ x e plain _ w.0 (not-false _ c.if-not-r.false) there c.if-r-eq0.false, omega (arith, w.1))
