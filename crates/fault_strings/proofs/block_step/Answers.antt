use Prim.Native.Nat.{◌+◌, ◌*◌}
use native.Mathlib.Omega.{arith}
use Rattle.check_runs.proofs.Stepping.{step-behind}
use Rattle.fault_strings.proofs.block_step.Goals as goal

pub returns-then-end1-ones0 : goal.returns-then-end1-ones0
returns-then-end1-ones0 c =
    let a = c.args in
    step-behind a.b.now a.r0_block (4000 * a.j) (4000 * a.j + a.n) (omega (arith, c.requires.ones0_value, c.requires.end1_value, c.if-end1-ones0.true))
