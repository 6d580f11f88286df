use Prim.Native.Nat.{◌+◌, ◌-◌, ◌*◌}
use native.Mathlib.Omega.{arith}
use Rattle.meaning.specs.Image.{string_in}
use Rattle.theory.specs.Stages.{Sampled}
use Rattle.check_sample.specs.Words.{RestZero}
use Rattle.check_counts_and_samples.specs.Samples.{SampledAt, SampledWithin}
use Rattle.image_string.proofs.Ones.{ones_to-le}
use Rattle.image_string.proofs.Saying.{decides_held, decides_missed, decides_same}
use Rattle.image_string.proofs.Within.{within_join}
use Rattle.check_counts_and_samples.proofs.Sampling.{sampled, sampled-within, sampled-rest}
use Rattle.check_counts_and_samples.proofs.samples_right.Goals as goal

pub returns-then-not-block_sampled : goal.returns-then-not-block_sampled
returns-then-not-block_sampled c =
    let a = c.args in
    let b = a.b.now in
    let j = c.last_block-last.result in
    λ all.
    decides_missed c.block_sampled.result (SampledWithin b a.samples a.bits_block (4000 * j) (4000 * j + (a.n - 4000 * j))) c.block_sampled.ensures c.if-not-block_sampled.true
    (λ p h g. sampled-within b a.samples a.bits_block a.n a.m c.requires.m_value all p (omega arith) (omega arith))

pub words_zero-requires-clause-m_bound : goal.words_zero-requires-clause-m_bound
words_zero-requires-clause-m_bound c = omega (arith, ones_to-le c.args.b.now c.args.bits_block c.args.n)

pub returns : goal.returns
returns c =
    let a = c.args in
    let b = a.b.now in
    let count = c.requires.m_value in
    let j = c.last_block-last.result in
    let this =
    decides_held c.block_sampled.result (SampledWithin b a.samples a.bits_block (4000 * j) (4000 * j + (a.n - 4000 * j)))
    c.block_sampled.ensures c.if-not-block_sampled.false in
    let earlier : SampledWithin b a.samples a.bits_block 0 (4000 * j) = λ p h g. c.requires.blocks_right.sampled p h (omega arith) in
    let all : SampledWithin b a.samples a.bits_block 0 a.n =
    λ p h g. within_join (SampledAt b a.samples a.bits_block) 0 (4000 * j) (4000 * j + (a.n - 4000 * j)) earlier this p h (omega arith) in
    decides_same c.words_zero.result (RestZero b a.samples a.m) (Sampled b a.samples a.m (string_in b a.bits_block 0 a.n))
    (sampled b a.samples a.bits_block a.n a.m count all) (sampled-rest b a.samples a.bits_block a.n a.m count) c.words_zero.ensures
