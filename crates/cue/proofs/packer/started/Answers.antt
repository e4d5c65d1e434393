use Rattle.cue.proofs.packer.started.Goals as goal

pub returns : goal.returns
returns c = simp c.counted-unlock.ensures.0
