use mathlib.Core.Path.{subst}
use Prim.Native.Nat.{◌+◌, ◌*◌}
use native.Mathlib.Omega.{arith}
use Rattle.image_string.specs.Decides.{Decides}
use Rattle.image_string.proofs.Saying.{decides_same}
use Rattle.check_runs_words.specs.Steps.{StepAt}
use Rattle.check_runs.specs.Steps.{StepWithin}
use Rattle.check_runs.proofs.Stepping.{step_block, block-step}
use Rattle.check_runs.proofs.block_in_step.Goals as goal

pub returns : goal.returns
returns c =
    let a = c.args in
    let b = a.b.now in
    let e1 = c.requires.ones1_value in
    let e0 = c.requires.ones0_value in
    decides_same c.words_in_step.result (StepAt b (512 * (1 + a.j) + 4) (512 * (a.zeros + a.j) + 4) a.n a.ones1 a.ones0)
    (StepWithin b a.zeros (4000 * a.j) (4000 * a.j + a.n))
    (step_block b a.zeros a.j a.n a.ones1 a.ones0 (omega arith) e1 e0) (block-step b a.zeros a.j a.n a.ones1 a.ones0 (omega arith) e1 e0)
    (subst (λ at. Decides c.words_in_step.result (StepAt b (512 * (1 + a.j) + 4) at a.n a.ones1 a.ones0)) c.bits_at-2.ensures
    (subst (λ at. Decides c.words_in_step.result (StepAt b at c.bits_at-2.result a.n a.ones1 a.ones0)) c.bits_at.ensures c.words_in_step.ensures))
