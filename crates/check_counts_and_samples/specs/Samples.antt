-- The samples of some bits of a string of blocks.
use Rattle.std.specs.Prelude.{◌≡◌, List, ℕ, ◌+◌, ◌-◌, ◌*◌, ◌/◌, ◌≤◌, ◌<◌}
use Rattle.meaning.specs.Strings.{I}
use Rattle.meaning.specs.Bytes.{bit_at}
use Rattle.theory.specs.Layout.{bit_place, sample_in, word_at}
use Rattle.image_string.specs.Parts.{Counted, ones_to}
use Rattle.check_counts_and_samples.specs.Pieces.{SampledHere}

-- bit p, if it is one, of the string whose blocks begin at block `first`
abbrev pub SampledAt : List ℕ → ℕ → ℕ → ℕ → Type 0
SampledAt bytes from first p = bit_at bytes (bit_place first p) ≡ I → SampledHere bytes from (ones_to bytes first p) (p + 1)

-- the bits from a to before b
abbrev pub SampledWithin : List ℕ → ℕ → ℕ → ℕ → ℕ → Type 0
SampledWithin bytes from first a b = (p : ℕ) → a ≤ p → p < b → SampledAt bytes from first p

-- a full block, number j: `end` ones up to its end, and its samples
abbrev pub BlockRight : List ℕ → ℕ → ℕ → ℕ → ℕ → Type 0
BlockRight bytes from first j end = (end ≡ ones_to bytes first (4000 * j + 4000)) × SampledWithin bytes from first (4000 * j) (4000 * j + 4000)

-- a string of n bits that has no more than m ones in full blocks: its counts, and the samples of
-- all blocks but the last
pub record BlocksRight (bytes : List ℕ) (from m first n : ℕ) : Type 0 where
  pub counted : Counted bytes first n
  pub few : ones_to bytes first (4000 * ((n - 1) / 4000)) ≤ m
  pub sampled : SampledWithin bytes from first 0 (4000 * ((n - 1) / 4000))

-- the first r of those blocks: what they and the block after them count, and their samples; and
-- there is a reason to stop before the last
pub record FrontRight (bytes : List ℕ) (from m first n r : ℕ) : Type 0 where
  pub inside : r ≤ (n - 1) / 4000
  pub counted : (j : ℕ) → j ≤ r → word_at bytes (512 * (first + j)) ≡ ones_to bytes first (4000 * j)
  pub few : ones_to bytes first (4000 * r) ≤ m
  pub sampled : SampledWithin bytes from first 0 (4000 * r)
  pub stopped : r < (n - 1) / 4000 → BlocksRight bytes from m first n → ⊥

-- a string with m ones: every sample is the position, from 1, of a one that 64 times its number of
-- ones come before
abbrev pub Placed : List ℕ → ℕ → ℕ → ℕ → Type 0
Placed bytes from first m =
    (q : ℕ) → 64 * q < m → (p : ℕ) × (ones_to bytes first p ≡ 64 * q) × (ones_to bytes first (p + 1) ≡ 64 * q + 1) × (sample_in bytes from q ≡ p + 1)
