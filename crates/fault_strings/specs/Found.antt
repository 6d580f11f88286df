-- What the pass over both strings tells.
use Rattle.std.specs.Prelude.{List, ℕ, ◌+◌, Option, Some, None}
use Rattle.meaning.specs.Image.{string_blocks}
use Rattle.fault_strings.specs.declared.Miscounted.{Miscounted}
use Rattle.fault_strings.specs.Lowest.{LowestBlock}
use Rattle.fault_strings.specs.Given.{CountKept}

-- that the strings are not as said; or that they are, and which block of R1, of n bits, and of R0,
-- of one more, is the lowest that counts wrong
abbrev pub Finds : Option Miscounted → Type 0 → List ℕ → ℕ → ℕ → Type 0
Finds None Said bytes r0_block n = Said → ⊥
Finds (Some w) Said bytes r0_block n =
    Said × LowestBlock (CountKept bytes 1) 1 (string_blocks n) w.in_r1 × LowestBlock (CountKept bytes r0_block) r0_block (string_blocks (n + 1)) w.in_r0
