use lib.ListN.{length}
use Rattle.capture.specs.File.{file_listed}
use Rattle.capture.specs.Inside.{progress_listed}
use Rattle.capture.proofs.WalkLaws.{Walking}
use Rattle.capture.proofs.walk.walk.Given as goal

abbrev pub invariant-loop-rest : goal.invariant-loop-rest
invariant-loop-rest l = Walking (file_listed l.f) l.frames l.write l.initial.out l.initial.numbers (progress_listed l.p) l.k l.rest l.out l.numbers

abbrev pub decreases-loop-rest : goal.decreases-loop-rest
decreases-loop-rest l = length l.rest
