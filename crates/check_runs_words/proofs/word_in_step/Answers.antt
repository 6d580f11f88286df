use native.Mathlib.Omega.{arith}
use Prim.Native.Nat.{◌*◌}
use Rattle.bits_count.proofs.Runs.{bits-ones-le}
use Rattle.check_runs_words.proofs.Stepping.{step-over-word, word-few}
use Rattle.check_runs_words.proofs.word_in_step.Goals as goal

pub overflow_add-ones1 : goal.overflow_add-ones1
overflow_add-ones1 c = omega (arith, word-few c.args.b.now c.args.at1 c.args.at0, bits-ones-le c.args.b.now (8 * c.args.at1) 64)

pub returns-then-ones1-ahead : goal.returns-then-ones1-ahead
returns-then-ones1-ahead c =
    step-over-word c.args.b.now c.args.at1 c.args.at0 c.args.ones1 c.args.ones0
    c.args.ahead c.requires.ahead_value (omega arith)
