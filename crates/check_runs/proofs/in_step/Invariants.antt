use Prim.Native.Nat.{◌*◌}
use Rattle.check_runs.specs.Steps.{StepWithin}
use Rattle.check_runs.proofs.in_step.Given as goal

abbrev pub invariant-loop-j : goal.invariant-loop-j
invariant-loop-j l = StepWithin l.b l.layout.r0_block 0 (4000 * l.j)
