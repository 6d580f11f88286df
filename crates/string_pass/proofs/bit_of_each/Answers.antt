use native.Mathlib.Omega.{arith}
use Prim.Native.Nat.{◌-◌}
use Rattle.string_pass.proofs.Bits.{bits_of_each}
use Rattle.string_pass.proofs.bit_of_each.Goals as goal

pub returns : goal.returns
returns c = bits_of_each (7 - c.args.i) c.args.word (omega arith) c.ranges.word.fits
