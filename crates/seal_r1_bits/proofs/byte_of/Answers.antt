use mathlib.Core.Path.{refl, ap}
use native.Mathlib.Numerals.{add-one}
use native.Mathlib.Omega.{arith}
use Prim.Native.Nat.{◌^◌}
use Rattle.meaning.specs.Bytes.{number}
use Rattle.seal_r1_bits.proofs.Entries.{shifted}
use Rattle.seal_r1_bits.proofs.byte_of.Goals as goal

pub loop-j-init : goal.loop-j-init
unfolding number
loop-j-init g c = record { small = omega arith; made = λ bits told. refl }

pub loop-j-preserved : goal.loop-j-preserved
loop-j-preserved g c =
    let one = c.requires.bit_bound c.loop-j.j c.bit.result c.loop-j-test.true c.bit.ensures in record {
      small = omega (arith, one, c.loop-j.invariant.small, ap (λ k. 2 ^ k) (add-one c.loop-j.j));
      made = λ bits told. shifted bits _ _ _ (c.loop-j.invariant.made bits told) (told _ _ c.loop-j-test.true c.bit.ensures);
    }
