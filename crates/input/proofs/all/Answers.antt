use Rattle.std.proofs.Common.{rules}
use Rattle.std.proofs.KnownBytes.{Consumes-nil}
use Rattle.input.proofs.ReadingLaws.{more-came}
use Rattle.input.proofs.all.Goals as goal

pub loop-n-init : goal.loop-n-init
loop-n-init g c = (search rules, Consumes-nil _)

pub loop-n-preserved : goal.loop-n-preserved
loop-n-preserved g c =
    let read = c.in-Ok.ensures in
    (read.behind, more-came _ _ _ c.loop-n.n c.in-Ok.k _ _ read.front c.loop-n.invariant.1 read.bytes.0)
