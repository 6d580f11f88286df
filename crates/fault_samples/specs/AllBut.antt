-- What is right before the samples are looked at.
use Rattle.std.specs.Prelude.{List, ℕ, ◌+◌, ◌<◌}
use Rattle.theory.specs.Stages.{samples_of, blocks_of_samples, nodes_of, runs_of, read_r1, read_r0, r0_block, r1_samples, Ended, CountsAndPadding}
use Rattle.theory.specs.Faults.{RestKept}

-- both strings have m ones, their blocks count the earlier ones, and all unused payload is zero
pub record AllButSamples (bytes : List ℕ) : Type 0 where
  pub ended1 : Ended (runs_of bytes) (read_r1 bytes)
  pub ended0 : Ended (runs_of bytes) (read_r0 bytes)
  pub kept1 : CountsAndPadding bytes 1 (read_r1 bytes)
  pub kept0 : CountsAndPadding bytes (r0_block (nodes_of bytes)) (read_r0 bytes)
  pub rest1 : (j : ℕ) → j < blocks_of_samples (runs_of bytes) → RestKept bytes (r1_samples (nodes_of bytes)) (samples_of (runs_of bytes)) j
  pub rest0 : (j : ℕ) → j < blocks_of_samples (runs_of bytes) → RestKept bytes (r1_samples (nodes_of bytes) + blocks_of_samples (runs_of bytes)) (samples_of (runs_of bytes)) j
