use Prim.Native.Nat.{◌*◌}
use native.Mathlib.Omega.{arith}
use Rattle.bits_byte.proofs.Values.{value-le}
use Rattle.bits_count.proofs.Runs.{bits-ones-le, bits-next}
use Rattle.check_runs_words.proofs.BytesStepping.{step-none, step-bit}
use Rattle.check_runs_words.proofs.bits_in_step.Goals as goal

pub loop-i-init : goal.loop-i-init
loop-i-init c =
    let a = c.args in
    (omega (arith, bits-ones-le a.b.now (8 * a.at1) 0), omega (arith, bits-ones-le a.b.now (8 * a.at0) 0), step-none a.b.now a.at1 a.at0 a.ones1 a.ones0)

pub overflow_add-before1 : goal.overflow_add-before1
overflow_add-before1 c = omega (arith, value-le _ _ c.bit_at.ensures, bits-ones-le c.args.b.now (8 * c.args.at1) c.loop-i.i)

pub overflow_add-before0 : goal.overflow_add-before0
overflow_add-before0 c = omega (arith, value-le _ _ c.bit_at-in-loop-i.ensures, bits-ones-le c.args.b.now (8 * c.args.at0) c.loop-i.i)

pub loop-i-preserved : goal.loop-i-preserved
loop-i-preserved c =
    let a = c.args in
    let b = a.b.now in
    let i = c.loop-i.i in (
      omega (arith, bits-next b (8 * a.at1) i c.bit_at.result c.bit_at.ensures),
      omega (arith, bits-next b (8 * a.at0) i c.bit_at-in-loop-i.result c.bit_at-in-loop-i.ensures),
      step-bit b a.at1 a.at0 a.ones1 a.ones0 i c.loop-i.invariant.2 (omega arith),
    )
