-- The lowest block with a word behind the last number of metres of n nodes that is not zero, where
-- there are metres.
use Rattle.std.specs.Prelude.{Some, ◌≡◌, List, ℕ, Option, None}
use Rattle.theory.specs.Stages.{word_blocks}
use Rattle.theory.specs.Faults.{RestKept}
use Rattle.fault_strings.specs.Lowest.{LowestBlock}

abbrev pub LowestAfterMetres : List ℕ → Option ℕ → ℕ → Option ℕ → Type 0
LowestAfterMetres bytes None n found = found ≡ None
LowestAfterMetres bytes (Some block) n found = LowestBlock (RestKept bytes block n) block (word_blocks n) found
