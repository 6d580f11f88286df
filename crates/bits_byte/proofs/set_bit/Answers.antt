use mathlib.Core.Path.{refl}
use Rattle.bits_byte.specs.Lit.{lit}
use Rattle.bits_byte.proofs.set_bit.Goals as goal

pub returns : goal.returns
unfolding lit
returns c = refl
