use mathlib.Core.Path.{sym}
use Prim.Native.Nat.{◌+◌, ◌≤◌}
use native.Mathlib.Omega.{arith}
use Rattle.image_string.proofs.Blanks.{kept-counts}
use Rattle.image_string.proofs.Saying.{decides_held, decides_missed, decides_same}
use Rattle.check_counts_and_samples.specs.Samples.{BlocksRight}
use Rattle.check_counts_and_samples.proofs.Sampling.{blocks_right, placed}
use Rattle.check_ends.specs.Parts.{StringRight}
use Rattle.meaning.specs.Image.{string_in}
use Rattle.theory.specs.Stages.{Sampled}
use Rattle.image_string.proofs.Ones.{ones_to-le}
use Rattle.check_stages.proofs.strings_pass.Goals as goal
use Rattle.check_stages.proofs.strings_pass.Goals.{Else-not-full_blocks_right-2, Else-not-samples_right-2}

pub full_blocks_right-requires : goal.full_blocks_right-requires
full_blocks_right-requires c = record {
  le_n = omega arith;
  n_bound = omega arith;
  bits_block_le_most_block = omega arith;
  samples_le_most_block = omega arith;
  n_in_bounds = omega arith;
  m_in_bounds = omega arith;
}

pub returns-then-not-full_blocks_right : goal.returns-then-not-full_blocks_right
returns-then-not-full_blocks_right c = λ s.
    let a = c.args in
    decides_missed c.full_blocks_right.result _ c.full_blocks_right.ensures c.if-not-full_blocks_right.true
    (blocks_right a.b.now a.layout.r1_samples 1 a.layout.nodes a.layout.runs (sym s.right1.ended.count)
    (kept-counts a.b.now 1 a.layout.nodes (omega arith) s.right1.kept) s.sampled1)

pub full_blocks_right-requires-2 : goal.full_blocks_right-requires-2
full_blocks_right-requires-2 c = record {
  le_n = omega arith;
  n_bound = omega arith;
  bits_block_le_most_block = omega arith;
  samples_le_most_block = omega arith;
  n_in_bounds = omega arith;
  m_in_bounds = omega arith;
}

pub returns-then-not-full_blocks_right-2 : goal.returns-then-not-full_blocks_right-2
returns-then-not-full_blocks_right-2 c = λ s.
    let a = c.args in
    decides_missed c.full_blocks_right-2.result _ c.full_blocks_right-2.ensures c.if-not-full_blocks_right-2.true
    (blocks_right a.b.now a.layout.r0_samples a.layout.r0_block (a.layout.nodes + 1) a.layout.runs (sym s.right0.ended.count)
    (kept-counts a.b.now a.layout.r0_block (a.layout.nodes + 1) (omega arith) s.right0.kept) s.sampled0)

-- what the first two tests tell
module _ (c : goal.Else-not-full_blocks_right-2) where
  blocks1 : BlocksRight c.args.b.now c.args.layout.r1_samples c.args.layout.runs 1 c.args.layout.nodes
  blocks1 = decides_held c.full_blocks_right.result _ c.full_blocks_right.ensures c.if-not-full_blocks_right.false

  blocks0 : BlocksRight c.args.b.now c.args.layout.r0_samples c.args.layout.runs c.args.layout.r0_block (c.args.layout.nodes + 1)
  blocks0 = decides_held c.full_blocks_right-2.result _ c.full_blocks_right-2.ensures c.if-not-full_blocks_right-2.false

pub string_right-requires : goal.string_right-requires
string_right-requires c = record {
  le_n = omega arith;
  n_bound = omega arith;
  bits_block_le_most_block = omega arith;
  n_in_bounds = omega arith;
  counted = (blocks1 (goal.at.string_right-requires c).Else-not-full_blocks_right-2).counted;
}

pub returns-then-not-string_right : goal.returns-then-not-string_right
returns-then-not-string_right c = λ s. decides_missed c.string_right.result _ c.string_right.ensures c.if-not-string_right.true s.right1

pub string_right-requires-2 : goal.string_right-requires-2
string_right-requires-2 c = record {
  le_n = omega arith;
  n_bound = omega arith;
  bits_block_le_most_block = omega arith;
  n_in_bounds = omega arith;
  counted = (blocks0 (goal.at.string_right-requires-2 c).Else-not-full_blocks_right-2).counted;
}

pub returns-then-not-string_right-2 : goal.returns-then-not-string_right-2
returns-then-not-string_right-2 c = λ s. decides_missed c.string_right-2.result _ c.string_right-2.ensures c.if-not-string_right-2.true s.right0

pub samples_right-requires : goal.samples_right-requires
samples_right-requires c =
    let right1 = decides_held c.string_right.result _ c.string_right.ensures c.if-not-string_right.false in
    record {
      le_n = omega arith;
      n_bound = omega arith;
      m_value = sym right1.ended.count;
      bits_block_le_most_block = omega arith;
      samples_le_most_block = omega arith;
      n_in_bounds = omega arith;
      m_in_bounds = omega arith;
      blocks_right = blocks1 (goal.at.samples_right-requires c).Else-not-full_blocks_right-2;
    }

pub returns-then-not-samples_right : goal.returns-then-not-samples_right
returns-then-not-samples_right c = λ s. decides_missed c.samples_right.result _ c.samples_right.ensures c.if-not-samples_right.true s.sampled1

pub samples_right-requires-2 : goal.samples_right-requires-2
samples_right-requires-2 c =
    let right0 = decides_held c.string_right-2.result _ c.string_right-2.ensures c.if-not-string_right-2.false in
    record {
      le_n = omega arith;
      n_bound = omega arith;
      m_value = sym right0.ended.count;
      bits_block_le_most_block = omega arith;
      samples_le_most_block = omega arith;
      n_in_bounds = omega arith;
      m_in_bounds = omega arith;
      blocks_right = blocks0 (goal.at.samples_right-requires-2 c).Else-not-full_blocks_right-2;
    }

pub returns-then-not-samples_right-2 : goal.returns-then-not-samples_right-2
returns-then-not-samples_right-2 c = λ s. decides_missed c.samples_right-2.result _ c.samples_right-2.ensures c.if-not-samples_right-2.true s.sampled0

-- all but the runs
module _ (c : goal.Else-not-samples_right-2) where
  right1 : StringRight c.args.b.now 1 c.args.layout.nodes c.args.layout.runs
  right1 =
      decides_held c.string_right.result _
      c.string_right.ensures c.if-not-string_right.false

  right0 : StringRight c.args.b.now c.args.layout.r0_block (c.args.layout.nodes + 1) c.args.layout.runs
  right0 =
      decides_held c.string_right-2.result _ c.string_right-2.ensures
      c.if-not-string_right-2.false

  sampled1 : Sampled c.args.b.now c.args.layout.r1_samples c.args.layout.runs (string_in c.args.b.now 1 0 c.args.layout.nodes)
  sampled1 = decides_held c.samples_right.result _ c.samples_right.ensures c.if-not-samples_right.false

  sampled0 : let a = c.args in Sampled a.b.now a.layout.r0_samples a.layout.runs (string_in a.b.now a.layout.r0_block 0 (a.layout.nodes + 1))
  sampled0 = decides_held c.samples_right-2.result _ c.samples_right-2.ensures c.if-not-samples_right-2.false

pub in_step-requires : goal.in_step-requires
in_step-requires c =
    let a = c.args in
    let b = a.b.now in
    let most = ones_to-le b 1 a.layout.nodes in
    let few : a.layout.runs ≤ 65536 = omega (arith, (right1 (goal.at.in_step-requires c).Else-not-samples_right-2).ended.count) in
    let placed1 = placed b a.layout.r1_samples 1 a.layout.nodes a.layout.runs (sym (right1 (goal.at.in_step-requires c).Else-not-samples_right-2).ended.count)
    (sampled1 (goal.at.in_step-requires c).Else-not-samples_right-2) in
    let placed0 = placed b a.layout.r0_samples a.layout.r0_block (a.layout.nodes + 1) a.layout.runs (sym (right0 (goal.at.in_step-requires c).Else-not-samples_right-2).ended.count)
    (sampled0 (goal.at.in_step-requires c).Else-not-samples_right-2) in
    record {
      laid_out = c.requires;
      runs_bound = few;
      counted = (blocks1 (goal.at.in_step-requires c).Else-not-full_blocks_right-2).counted;
      counted_2 = (blocks0 (goal.at.in_step-requires c).Else-not-full_blocks_right-2).counted;
      placed = placed1;
      placed_2 = placed0;
    }

pub returns : goal.returns
returns c =
    decides_same c.in_step.result _ _
    (λ s. record {
      right1 = right1 (goal.at.returns c).Else-not-samples_right-2;
      right0 = right0 (goal.at.returns c).Else-not-samples_right-2;
      in_step = s;
      sampled1 = sampled1
          (goal.at.returns c).Else-not-samples_right-2;
      sampled0 = sampled0 (goal.at.returns c).Else-not-samples_right-2;
    }) (λ s. s.in_step) c.in_step.ensures
