use Prim.Native.Nat.{◌*◌}
use native.Mathlib.Omega.{arith}
use Rattle.bits_count.proofs.Runs.{bits-ones-le}
use Rattle.check_runs_words.proofs.BytesStepping.{step-over}
use Rattle.check_runs_words.proofs.byte_in_step.Goals as goal

pub overflow_add-ones1 : goal.overflow_add-ones1
overflow_add-ones1 c = omega (arith, bits-ones-le c.args.b.now (8 * c.args.at1) 8)

pub returns-then-ones1-more : goal.returns-then-ones1-more
returns-then-ones1-more c =
    step-over c.args.b.now c.args.at1 c.args.at0 c.args.ones1 c.args.ones0 8
    c.args.more c.requires.more_value (omega arith)
