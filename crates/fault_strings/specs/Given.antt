-- What makes two strings those of a tree with n nodes and m runs.
use Rattle.std.specs.Prelude.{◌≡◌, List, ℕ, ◌+◌, ◌-◌, ◌*◌, ◌/◌, Option, Some, None}
use Rattle.meaning.specs.Image.{string_in}
use Rattle.theory.specs.Layout.{word_at}
use Rattle.theory.specs.Stages.{Ended, InStep}
use Rattle.image_layout.specs.declared.Layout.{Layout}
use Rattle.image_string.specs.Parts.{ones_to}
use Rattle.check_runs.specs.Steps.{StepWithin}

-- word 0 of block j of the string whose blocks begin at block `first` is the number of ones in
-- earlier blocks
abbrev pub CountKept : List ℕ → ℕ → ℕ → Type 0
CountKept bytes first j = word_at bytes (512 * (first + j)) ≡ ones_to bytes first (4000 * j)

-- r is `found`, unless that is none and `block` has `kept` and not `ones`: then it is `block`
pub data Lowest (found : Option ℕ) (block kept ones : ℕ) (r : Option ℕ) : Type 0 where
  right : kept ≡ ones → r ≡ found → Lowest found block kept ones r
  earlier : (p : ℕ) → found ≡ Some p → r ≡ found → Lowest found block kept ones r
  this : found ≡ None → (kept ≡ ones → ⊥) → r ≡ Some block → Lowest found block kept ones r

-- R1 has m ones in n bits, R0 one less in its first n, and they are in step in the last block of
-- these
pub record LastBlocks (bytes : List ℕ) (r0_block n m : ℕ) : Type 0 where
  pub ones1 : ones_to bytes 1 n ≡ m
  pub ones0 : ones_to bytes r0_block n + 1 ≡ m
  pub in_step : StepWithin bytes r0_block (4000 * ((n - 1) / 4000)) n

-- R1 has m ones in n bits, R0 one less in its first n, and they are in step
pub record StepCounted (bytes : List ℕ) (r0_block n m : ℕ) : Type 0 where
  pub ones1 : ones_to bytes 1 n ≡ m
  pub ones0 : ones_to bytes r0_block n + 1 ≡ m
  pub in_step : InStep (string_in bytes 1 0 n) (string_in bytes r0_block 0 (n + 1))

-- both have m ones, the last bit among them, and they are in step
pub record StringsGiven (bytes : List ℕ) (layout : Layout) : Type 0 where
  pub ended1 : Ended layout.runs (string_in bytes 1 0 layout.nodes)
  pub ended0 : Ended layout.runs (string_in bytes layout.r0_block 0 (layout.nodes + 1))
  pub in_step : InStep (string_in bytes 1 0 layout.nodes) (string_in bytes layout.r0_block 0 (layout.nodes + 1))
