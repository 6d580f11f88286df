use Rattle.bits_select_byte.proofs.Removing.{first_removed, zeros_less}
use Rattle.bits_select_byte.proofs.without_first.Goals as goal

pub returns : goal.returns
returns c = first_removed c.args.x c.ranges.x.fits

pub overflow_shr-result : goal.overflow_shr-result
overflow_shr-result c = zeros_less c.args.x c.ranges.x.fits c.requires
