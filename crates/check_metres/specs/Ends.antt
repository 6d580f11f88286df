-- Where there are metres of n nodes, the words behind the last of them.
use Rattle.std.specs.Prelude.{None, Some, Option, List, ℕ, ◌<◌}
use Rattle.theory.specs.Stages.{word_blocks}
use Rattle.theory.specs.Faults.{RestKept}

abbrev pub MetresEnded : List ℕ → Option ℕ → ℕ → Type 0
MetresEnded bytes None n = Unit
MetresEnded bytes (Some block) n = (j : ℕ) → j < word_blocks n → RestKept bytes block n j
