use Rattle.panel.proofs.MaskLaws.{tally-is}
use Rattle.panel.proofs.masks.tally_of.Goals as goal

pub returns : goal.returns
returns c = tally-is _ _ c.ranges.asked.fits c.ranges.failed.fits
