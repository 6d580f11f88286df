use mathlib.Core.Path.{◌≡◌, subst, ◌∙◌}
use Prim.Native.Nat.{◌+◌, ◌*◌}
use native.Mathlib.Omega.{arith}
use Rattle.meaning.specs.Strings.{ones}
use Rattle.meaning.specs.Bytes.{bits_from}
use Rattle.check_counts_and_samples.specs.Pieces.{PieceSampled}
use Rattle.check_counts_and_samples.specs.Samples.{BlockRight}
use Rattle.image_string.specs.Decides.{Decides}
use Rattle.image_string.proofs.Saying.{decides_same}
use Rattle.image_string.proofs.Ones.{ones_to-le, ones_to-block}
use Rattle.check_counts_and_samples.proofs.Sampling.{piece_bits, sampled-block, block-sampled}
use Rattle.check_counts_and_samples.proofs.full_block_right.Goals as goal

pub full_piece_right-requires-clause-k_bound : goal.full_piece_right-requires-clause-k_bound
full_piece_right-requires-clause-k_bound c = omega (arith, ones_to-le c.args.b.now c.args.bits_block (4000 * c.args.j))

pub returns : goal.returns
returns c =
    let a = c.args in
    let b = a.b.now in
    let k = c.word.result in
    let e = c.word.ensures ∙ c.requires.j_value in
    let at = 512 * (a.bits_block + a.j) + 4 in
    let whole = ones_to-block b a.bits_block a.j 4000 (omega arith) in
    let right =
    subst (λ m. Decides c.full_piece_right.result ((a.end ≡ k + ones (bits_from b (8 * at) m)) × PieceSampled b a.samples at m (4000 * a.j + 1) k)) (piece_bits a.j 4000)
    c.full_piece_right.ensures in
    decides_same c.full_piece_right.result ((a.end ≡ k + ones (bits_from b (8 * at) 4000)) × PieceSampled b a.samples at 4000 (4000 * a.j + 1) k)
    (BlockRight b a.samples a.bits_block a.j a.end)
    (λ s. (omega (arith, s.0), sampled-block b a.samples a.bits_block a.j 4000 k (omega arith) e s.1))
    (λ s. (omega (arith, s.0), block-sampled b a.samples a.bits_block a.j 4000 k (omega arith) e s.1)) right
