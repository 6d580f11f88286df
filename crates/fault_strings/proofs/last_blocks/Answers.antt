use mathlib.Core.Path.{◌≡◌, sym, ap, ◌∙◌}
use Prim.Native.Nat.{◌+◌, ◌-◌, ◌*◌}
use native.Mathlib.Omega.{arith}
use Rattle.theory.proofs.InBlocks.{string-ones-le, counted_on}
use Rattle.image_string.specs.Parts.{ones_to}
use Rattle.image_string.proofs.Saying.{decides_same}
use Rattle.check_runs.specs.Steps.{StepWithin}
use Rattle.fault_strings.specs.Given.{LastBlocks}
use Rattle.fault_strings.proofs.last_blocks.Goals as goal
use Rattle.fault_strings.proofs.last_blocks.Goals.{After-last_block-last, After-ones_from, After-ones_from-2}

-- with the last block these are all of R1's bits, and R0's but for the last
whole : (c : goal.After-last_block-last)
    → let j = c.last_block-last.result in
    4000 * j + (c.args.n - 4000 * j) ≡ c.args.n
whole c = omega (arith, c.last_block-last.ensures)

-- the ones of R1 in all
all1 : (c : goal.After-ones_from)
    → let a = c.args in
    let j = c.last_block-last.result in
    a.ones1 + c.ones_from.result ≡ ones_to a.b.now 1 (4000 * j + (a.n - 4000 * j))
all1 c =
    let a = c.args in
    let j = c.last_block-last.result in
    counted_on a.b.now 1 j (a.n - 4000 * j) c.bits_at.result a.ones1 c.ones_from.result (omega (arith, c.last_block-last.ensures)) c.bits_at.ensures
    (c.requires.ones1_value ∙ ap (λ i. ones_to a.b.now 1 (4000 * i)) (sym c.last_block-last.ensures)) c.ones_from.ensures

-- the ones of R0 in as many bits
all0 : (c : goal.After-ones_from-2)
    → let a = c.args in
    let j = c.last_block-last.result in
    a.ones0 + c.ones_from-2.result ≡ ones_to a.b.now a.r0_block (4000 * j + (a.n - 4000 * j))
all0 c =
    let a = c.args in
    let j = c.last_block-last.result in
    counted_on a.b.now a.r0_block j (a.n - 4000 * j) c.bits_at-2.result a.ones0 c.ones_from-2.result
    (omega (arith, c.last_block-last.ensures)) c.bits_at-2.ensures (c.requires.ones0_value ∙ ap (λ i. ones_to a.b.now a.r0_block (4000 * i)) (sym c.last_block-last.ensures)) c.ones_from-2.ensures

pub overflow_add-end1 : goal.overflow_add-end1
overflow_add-end1 c =
    let a = c.args in
    let j = c.last_block-last.result in
    omega (arith, all1 (goal.at.overflow_add-end1 c).After-ones_from, c.last_block-last.ensures, string-ones-le a.b.now 1 (4000 * j + (a.n - 4000 * j)))

pub returns-then-end1-m : goal.returns-then-end1-m
returns-then-end1-m c =
    λ g. c.if-end1-m.true (all1 (goal.at.returns-then-end1-m c).After-ones_from ∙ ap (ones_to c.args.b.now 1) (whole (goal.at.returns-then-end1-m c).After-last_block-last) ∙ g.ones1)

pub overflow_add-end0 : goal.overflow_add-end0
overflow_add-end0 c =
    let a = c.args in
    let j = c.last_block-last.result in
    omega (arith, all0 (goal.at.overflow_add-end0 c).After-ones_from-2, c.last_block-last.ensures, string-ones-le a.b.now a.r0_block (4000 * j + (a.n - 4000 * j)))

pub overflow_add-end0-2 : goal.overflow_add-end0-2
overflow_add-end0-2 c =
    let a = c.args in
    let j = c.last_block-last.result in
    omega (arith, all0 (goal.at.overflow_add-end0-2 c).After-ones_from-2, c.last_block-last.ensures, string-ones-le a.b.now a.r0_block (4000 * j + (a.n - 4000 * j)))

pub returns-then-end0-m : goal.returns-then-end0-m
returns-then-end0-m c =
    let a = c.args in
    λ g. c.if-end0-m.true
    (ap (λ k. k + 1) (all0 (goal.at.returns-then-end0-m c).After-ones_from-2 ∙ ap (ones_to a.b.now a.r0_block) (whole (goal.at.returns-then-end0-m c).After-last_block-last)) ∙ g.ones0)

pub block_step-requires-clause-end1_value : goal.block_step-requires-clause-end1_value
block_step-requires-clause-end1_value c = all1 (goal.at.block_step-requires-clause-end1_value c).After-ones_from

pub returns : goal.returns
returns c =
    let a = c.args in
    let b = a.b.now in
    let z = a.r0_block in
    let last = c.last_block-last in
    let j = last.result in
    let ones1 = ap (ones_to b 1) (sym (whole (goal.at.returns c).After-last_block-last)) ∙ sym (all1 (goal.at.returns c).After-ones_from) ∙ c.if-end1-m.false in
    let ones0 = ap (λ k. k + 1) (ap (ones_to b z) (sym (whole (goal.at.returns c).After-last_block-last)) ∙ sym (all0 (goal.at.returns c).After-ones_from-2)) ∙ c.if-end0-m.false in
    decides_same c.block_step.result (StepWithin b z (4000 * j) (4000 * j + (a.n - 4000 * j))) (LastBlocks b z a.n a.m)
    (λ this. record { ones1 = ones1; ones0 = ones0; in_step = λ p h g. this p (omega (arith, last.ensures)) (omega (arith, last.ensures)) })
    (λ s p h g. s.in_step p (omega (arith, last.ensures)) (omega (arith, last.ensures))) c.block_step.ensures
