use mathlib.Core.Path.{◌≡◌}
use Prim.Native.Nat.{ℕ, ◌+◌, ◌≤◌, ◌<◌}
use Rattle.theory.specs.Layout.{sample_place}
use Rattle.check_sample.specs.Words.{bits_in}
use Rattle.check_counts_and_samples.proofs.Numbering.{NumberSampled}
use Rattle.check_counts_and_samples.proofs.each_sampled.Given as goal

abbrev pub invariant-loop-s : goal.invariant-loop-s
invariant-loop-s l =
    (l.p ≡ sample_place l.samples l.s) × (l.end ≤ l.k + 4000) × ((q : ℕ) → q < l.s → NumberSampled l.b l.samples l.piece.at (bits_in l.piece) l.piece.first l.k q)
