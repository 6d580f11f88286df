use mathlib.Core.Path.{◌≡◌, ap, ◌∙◌}
use Prim.Native.Nat.{◌+◌, ◌-◌, ◌*◌, ◌/◌}
use native.Mathlib.Omega.{arith}
use Rattle.theory.specs.Layout.{word_at}
use Rattle.image_string.specs.Parts.{ones_to}
use Rattle.image_string.proofs.Saying.{decides_missed}
use Rattle.image_string.proofs.Ones.{ones_to_mono, ones_to-le}
use Rattle.image_string.proofs.Pieces.{counted_more}
use Rattle.check_counts_and_samples.specs.Samples.{BlockRight}
use Rattle.check_counts_and_samples.proofs.blocks_right.Goals as goal
use Rattle.check_counts_and_samples.proofs.blocks_right.Goals.{After-word-end}

pub loop-j-init : goal.loop-j-init
loop-j-init c =
    let a = c.args in
    let b = a.b.now in
    let none = ones_to-le b a.bits_block (4000 * 0) in
    let here : word_at b (512 * (a.bits_block + 0)) ≡ ones_to b a.bits_block (4000 * 0) =
    omega (arith, c.requires.bits_block_value, ap (word_at b) (let e : 512 * (a.bits_block + 0) ≡ 512 * a.bits_block = omega arith in e)) in
    (counted_more b a.bits_block 0 (λ k h. absurd (omega arith)) here, omega arith, λ p h g. absurd (omega arith))

-- what the next block has
next : (c : goal.After-word-end) → let a = c.args in
    c.word-end.result ≡ word_at a.b.now (512 * (a.bits_block + (c.loop-j.j + 1)))
next c =
    let a = c.args in
    c.word-end.ensures ∙ ap (word_at a.b.now) (let e : 512 * (a.bits_block + c.loop-j.j + 1) ≡ 512 * (a.bits_block + (c.loop-j.j + 1)) = omega arith in e)

pub returns-then-m-end : goal.returns-then-m-end
returns-then-m-end c =
    let a = c.args in
    let j = c.loop-j.j in
    record {
      inside = omega arith;
      counted = λ k h. c.loop-j.invariant.0 k (omega arith);
      few = c.loop-j.invariant.1;
      sampled = c.loop-j.invariant.2;
      stopped = λ h right.
          omega (
            arith,
            next (goal.at.returns-then-m-end c).After-word-end,
            right.counted (j + 1) (omega arith),
            ones_to_mono a.b.now a.bits_block (4000 * (j + 1))
                (4000 * ((a.n - 1) / 4000)) (omega arith),
            right.few,
          );
    }

pub returns-then-not-full_block_right : goal.returns-then-not-full_block_right
returns-then-not-full_block_right c =
    let a = c.args in
    let j = c.loop-j.j in
    record {
      inside = omega arith;
      counted = λ k h. c.loop-j.invariant.0 k (omega arith);
      few = c.loop-j.invariant.1;
      sampled = c.loop-j.invariant.2;
      stopped = λ h right.
          decides_missed c.full_block_right.result (BlockRight a.b.now a.samples a.bits_block j c.word-end.result)
          c.full_block_right.ensures c.if-not-full_block_right.true (
            next (goal.at.returns-then-not-full_block_right c).After-word-end ∙ right.counted (j + 1) (omega arith) ∙ ap (ones_to a.b.now a.bits_block)
                (let e : 4000 * (j + 1) ≡ 4000 * j + 4000 = omega arith in e),
            λ p f g. right.sampled p (omega arith) (omega arith),
          );
    }
