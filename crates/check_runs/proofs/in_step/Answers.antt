use Prim.Native.Nat.{◌+◌, ◌-◌, ◌*◌, ◌≤◌}
use native.Mathlib.Omega.{arith}
use Rattle.meaning.specs.Image.{string_in}
use Rattle.theory.specs.Stages.{InStep}
use Rattle.image_string.specs.Parts.{ones_to}
use Rattle.check_runs.specs.Steps.{StepWithin}
use Rattle.image_string.proofs.Saying.{decides_missed, decides_same}
use Rattle.image_string.proofs.Within.{within_join}
use Rattle.check_runs.proofs.Stepping.{no_first, in_step, step-within}
use Rattle.check_runs.proofs.in_step.Goals as goal
use Rattle.check_runs.proofs.in_step.Goals.{After-word-ones0}

pub returns-then-string_bit-eq0 : goal.returns-then-string_bit-eq0
returns-then-string_bit-eq0 c =
    no_first c.args.b.now c.args.layout.r0_block c.args.layout.nodes c.requires.laid_out.some c.string_bit.result c.string_bit.ensures c.if-string_bit-eq0.true

pub returns-then-not-full_block_in_step : goal.returns-then-not-full_block_in_step
returns-then-not-full_block_in_step c =
    let a = c.args in
    let zeros = a.layout.r0_block in
    let j = c.loop-j.j in
    λ s. decides_missed c.full_block_in_step.result (StepWithin a.b.now zeros (4000 * j) (4000 * j + 4000)) c.full_block_in_step.ensures c.if-not-full_block_in_step.true
    (λ p h g. step-within a.b.now zeros a.layout.nodes s p (omega arith) (omega (arith, c.last_block-last.ensures)))

pub returns : goal.returns
returns c =
    let f = c.before.before.before in
    let s = f.before.before.before.before.before.before.before.before in
    let b = c.args.b.now in
    let z = c.args.layout.r0_block in
    let n = c.args.layout.nodes in
    let last = c.last_block-last in
    let j = last.result in
    let bit = c.string_bit in
    decides_same c.block_in_step.result (StepWithin b z (4000 * j) (4000 * j + (n - 4000 * j))) (InStep (string_in b 1 0 n) (string_in b z 0 (n + 1)))
    (λ this. in_step b z n c.requires.laid_out.some bit.result bit.ensures c.if-string_bit-eq0.false
    (λ p h g. within_join (λ q. ones_to b 1 q ≤ ones_to b z q) 0 (4000 * j) (4000 * j + (n - 4000 * j))
    (λ q l k. c.loop-j.invariant q l (omega (arith, last.ensures))) this p h (omega (arith, last.ensures))))
    (λ s p h g. step-within b z n s p (omega arith) (omega (arith, last.ensures))) c.block_in_step.ensures
