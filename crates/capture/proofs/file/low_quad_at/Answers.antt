use mathlib.Core.Path.{refl}
use Rattle.capture.specs.File.{low_quad_at}
use Rattle.capture.proofs.file.low_quad_at.Goals as goal

pub returns : goal.returns
unfolding low_quad_at
returns c = rw (
  c.byte_at-4.ensures.0,
  c.byte_at-3.ensures.0,
  c.byte_at-2.ensures.0,
  c.byte_at.ensures.0,
)
    refl
