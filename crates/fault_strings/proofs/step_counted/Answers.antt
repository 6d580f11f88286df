use mathlib.Core.Path.{◌≡◌, ap, subst, ◌∙◌}
use Prim.Native.Nat.{◌+◌, ◌-◌, ◌*◌, ◌/◌, ◌≤◌}
use native.Mathlib.Omega.{arith}
use Rattle.std.specs.Prelude.{None}
use Rattle.meaning.specs.Image.{string_blocks}
use Rattle.theory.proofs.InBlocks.{string-ones-le, no_string, counted_on, counted_full}
use Rattle.image_string.specs.Parts.{ones_to}
use Rattle.image_string.proofs.Saying.{decides_held, decides_missed}
use Rattle.image_string.proofs.Within.{within_join}
use Rattle.check_runs.specs.Steps.{StepWithin}
use Rattle.check_runs.proofs.Stepping.{no_first, in_step, step-within}
use Rattle.fault_strings.specs.Lowest.{LowestBlock}
use Rattle.fault_strings.specs.Given.{CountKept, LastBlocks}
use Rattle.fault_strings.proofs.Finding.{none_yet, lowest_more}
use Rattle.fault_strings.proofs.step_counted.Goals as goal
use Rattle.fault_strings.proofs.step_counted.Goals.{After-loop-j, After-ones_from, After-ones_from-in-loop-j}

-- the ones of R1 after one block more
more1 : (c : goal.After-ones_from)
    → c.loop-j.ones1 + c.ones_from.result ≡ ones_to c.args.b.now 1 (4000 * c.loop-j.j + 4000)
more1 c =
    counted_on c.args.b.now 1 c.loop-j.j 4000 c.bits_at.result c.loop-j.ones1 c.ones_from.result
    (omega arith) c.bits_at.ensures c.loop-j.invariant.0 c.ones_from.ensures

-- and of R0
next0 : (c : goal.After-ones_from-in-loop-j)
    → let a = c.args in
    c.loop-j.ones0 + c.ones_from-in-loop-j.result ≡ ones_to a.b.now a.r0_block (4000 * (c.loop-j.j + 1))
next0 c =
    let a = c.args in
    counted_full a.b.now a.r0_block c.loop-j.j c.bits_at-in-loop-j.result c.loop-j.ones0 c.ones_from-in-loop-j.result c.bits_at-in-loop-j.ensures c.loop-j.invariant.1 c.ones_from-in-loop-j.ensures

-- the loop has come to the last block
all_passed : (c : goal.After-loop-j) → c.loop-j.j + 1 ≡ string_blocks c.args.n
all_passed c = omega (arith, c.loop-j-test.false, c.loop-j.auto.j-end, c.last_block-last.ensures, c.requires.le_n)

pub returns-then-string_bit-eq0 : goal.returns-then-string_bit-eq0
returns-then-string_bit-eq0 c =
    λ g. no_first c.args.b.now c.args.r0_block c.args.n c.requires.le_n c.string_bit.result c.string_bit.ensures c.if-string_bit-eq0.true g.in_step

pub loop-j-init : goal.loop-j-init
loop-j-init c =
    let b = c.args.b.now in
    let z = c.args.r0_block in (
      no_string _ _,
      no_string _ _,
      λ p h g. absurd (omega arith),
      lowest_more b 1 0 None 1 c.word.result 0 c.lowest_wrong-wrong1.result (omega arith) c.word.ensures (no_string b 1) (none_yet b 1) c.lowest_wrong-wrong1.ensures,
      lowest_more b z 0 None z c.word-2.result 0 c.lowest_wrong-wrong0.result (omega arith) c.word-2.ensures (no_string b z) (none_yet b z) c.lowest_wrong-wrong0.ensures,
    )

pub overflow_add-end1 : goal.overflow_add-end1
overflow_add-end1 c =
    omega (arith, more1 (goal.at.overflow_add-end1 c).After-ones_from, c.last_block-last.ensures, string-ones-le c.args.b.now 1 (4000 * c.loop-j.j + 4000))

pub block_step-requires-clause-end1_value : goal.block_step-requires-clause-end1_value
block_step-requires-clause-end1_value c = more1 (goal.at.block_step-requires-clause-end1_value c).After-ones_from

pub returns-then-not-block_step : goal.returns-then-not-block_step
returns-then-not-block_step c =
    let a = c.args in
    let j = c.loop-j.j in
    λ g. decides_missed c.block_step.result (StepWithin a.b.now a.r0_block (4000 * j) (4000 * j + 4000)) c.block_step.ensures c.if-not-block_step.true
    (λ p h k. step-within a.b.now a.r0_block a.n g.in_step p (omega arith) (omega (arith, c.last_block-last.ensures)))

pub overflow_add-end0 : goal.overflow_add-end0
overflow_add-end0 c =
    let a = c.args in
    omega (arith, next0 (goal.at.overflow_add-end0 c).After-ones_from-in-loop-j, c.last_block-last.ensures, string-ones-le a.b.now a.r0_block (4000 * (c.loop-j.j + 1)))

pub loop-j-preserved : goal.loop-j-preserved
loop-j-preserved c =
    let a = c.args in
    let b = a.b.now in
    let z = a.r0_block in
    let j = c.loop-j.j in
    let this = decides_held c.block_step.result (StepWithin b z (4000 * j) (4000 * j + 4000)) c.block_step.ensures c.if-not-block_step.false in
    let end1 =
    more1 (goal.at.loop-j-preserved c).After-ones_from
    ∙ ap (ones_to b 1) (let e : 4000 * j + 4000 ≡ 4000 * (j + 1) = omega arith in e) in
    let end0 = next0 (goal.at.loop-j-preserved c).After-ones_from-in-loop-j in (
      end1,
      end0,
      λ p h g. within_join (λ q. ones_to b 1 q ≤ ones_to b z q) 0 (4000 * j) (4000 * j + 4000) c.loop-j.invariant.2 this p h (omega arith),
      lowest_more b 1 (j + 1) c.loop-j.wrong1 (1 + j + 1) c.word-kept1.result (c.loop-j.ones1 + c.ones_from.result) c.lowest_wrong-wrong1-in-loop-j.result
          (omega arith) c.word-kept1.ensures end1 c.loop-j.invariant.3 c.lowest_wrong-wrong1-in-loop-j.ensures,
      lowest_more b z (j + 1) c.loop-j.wrong0 (z + j + 1) c.word-kept0.result (c.loop-j.ones0 + c.ones_from-in-loop-j.result) c.lowest_wrong-wrong0-in-loop-j.result
          (omega arith) c.word-kept0.ensures end0 c.loop-j.invariant.4 c.lowest_wrong-wrong0-in-loop-j.ensures,
    )

pub returns-then-not-last_blocks : goal.returns-then-not-last_blocks
returns-then-not-last_blocks c =
    let a = c.args in
    λ g. decides_missed c.last_blocks.result _ c.last_blocks.ensures c.if-not-last_blocks.true (record {
      ones1 = g.ones1;
      ones0 = g.ones0;
      in_step = λ p h k. step-within a.b.now a.r0_block a.n g.in_step p (omega arith) k;
    })

pub lowest_in_r0-requires-clause-lowest_wrong : goal.lowest_in_r0-requires-clause-lowest_wrong
lowest_in_r0-requires-clause-lowest_wrong c =
    let a = c.args in
    subst (λ k. LowestBlock (CountKept a.b.now a.r0_block) a.r0_block k c.loop-j.wrong0)
    (all_passed (goal.at.lowest_in_r0-requires-clause-lowest_wrong c).After-loop-j) c.loop-j.invariant.4

pub returns : goal.returns
returns c =
    let b = c.args.b.now in
    let z = c.args.r0_block in
    let n = c.args.n in
    let bit = c.string_bit in
    let all = all_passed (goal.at.returns c).After-loop-j in
    let told : LastBlocks b z n c.args.m = decides_held c.last_blocks.result _ c.last_blocks.ensures c.if-not-last_blocks.false in
    let earlier : StepWithin b z 0 (4000 * ((n - 1) / 4000)) = λ p h g. c.loop-j.invariant.2 p h (omega (arith, all)) in
    let within : StepWithin b z 0 n = within_join (λ q. ones_to b 1 q ≤ ones_to b z q) 0 (4000 * ((n - 1) / 4000)) n earlier told.in_step in (
      record { ones1 = told.ones1; ones0 = told.ones0; in_step = in_step b z n c.requires.le_n bit.result bit.ensures c.if-string_bit-eq0.false within },
      subst (λ k. LowestBlock (CountKept b 1) 1 k c.loop-j.wrong1) all c.loop-j.invariant.3,
      c.lowest_in_r0.ensures,
    )
