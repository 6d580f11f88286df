use Rattle.bits_lanes.proofs.Sums.{eight_is}
use Rattle.bits_lanes.proofs.ones_of_each.Goals as goal

pub returns : goal.returns
returns c = eight_is c.args.word c.ranges.word.fits
