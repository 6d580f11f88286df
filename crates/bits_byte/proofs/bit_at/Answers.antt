use Rattle.bits_byte.proofs.Values.{digit_value}
use Rattle.bits_byte.proofs.bit_at.Goals as goal

pub returns : goal.returns
returns c = digit_value c.args.b.now c.args.p
