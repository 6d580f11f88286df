use Prim.Native.Nat.{◌+◌, ◌*◌, ◌≤◌}
use Rattle.image_string.specs.Parts.{ones_to}
use Rattle.image_string.proofs.Pieces.{CountedTo}
use Rattle.check_counts_and_samples.specs.Samples.{SampledWithin}
use Rattle.check_counts_and_samples.proofs.blocks_right.Given as goal

abbrev pub invariant-loop-j : goal.invariant-loop-j
invariant-loop-j l = CountedTo l.b l.bits_block (l.j + 1) × (ones_to l.b l.bits_block (4000 * l.j) ≤ l.m) × SampledWithin l.b l.samples l.bits_block 0 (4000 * l.j)
