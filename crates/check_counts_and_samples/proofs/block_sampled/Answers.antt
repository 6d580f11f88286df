use mathlib.Core.Path.{ap, subst, ◌∙◌}
use Prim.Native.Nat.{◌+◌, ◌*◌}
use native.Mathlib.Omega.{arith}
use Rattle.meaning.specs.Strings.{ones}
use Rattle.meaning.specs.Bytes.{bits_from}
use Rattle.check_counts_and_samples.specs.Pieces.{PieceSampled}
use Rattle.check_counts_and_samples.specs.Samples.{SampledWithin}
use Rattle.image_string.specs.Decides.{Decides}
use Rattle.image_string.proofs.Saying.{decides_same}
use Rattle.image_string.proofs.Ones.{ones_to-le, ones_to-block}
use Rattle.check_counts_and_samples.proofs.Sampling.{piece_bits, sampled-block, block-sampled}
use Rattle.check_counts_and_samples.proofs.block_sampled.Goals as goal

pub piece_sampled-requires-clause-k_bound : goal.piece_sampled-requires-clause-k_bound
piece_sampled-requires-clause-k_bound c = omega (arith, ones_to-le c.args.b.now c.args.bits_block (4000 * c.args.j))

pub piece_sampled-requires-clause-end_value : goal.piece_sampled-requires-clause-end_value
piece_sampled-requires-clause-end_value c =
    let a = c.args in
    let b = a.b.now in
    omega (
      arith,
      ones_to-block b a.bits_block a.j a.n (omega arith),
      ap (λ m. ones (bits_from b (8 * (512 * (a.bits_block + a.j) + 4)) m)) (piece_bits a.j a.n),
    )

pub returns : goal.returns
returns c =
    let a = c.args in
    let b = a.b.now in
    let k = c.word.result in
    let e = c.word.ensures ∙ c.requires.j_value in
    let at = 512 * (a.bits_block + a.j) + 4 in
    let sampled = subst (λ m. Decides c.piece_sampled.result (PieceSampled b a.samples at m (4000 * a.j + 1) k)) (piece_bits a.j a.n) c.piece_sampled.ensures in
    decides_same c.piece_sampled.result (PieceSampled b a.samples at a.n (4000 * a.j + 1) k)
    (SampledWithin b a.samples a.bits_block (4000 * a.j) (4000 * a.j + a.n))
    (sampled-block b a.samples a.bits_block a.j a.n k (omega arith) e) (block-sampled b a.samples a.bits_block a.j a.n k (omega arith) e) sampled
