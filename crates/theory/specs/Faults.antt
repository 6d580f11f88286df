-- The lowest wrong block of some, and what the blocks after the header are looked at for (document
-- 02, item 1).
use Rattle.std.specs.Prelude.{◌≡◌, List, ℕ, ◌+◌, ◌*◌, ◌≤◌, ◌<◌}
use Rattle.meaning.specs.Strings.{Bit, O, ones}
use Rattle.meaning.specs.Bytes.{bit_at}
use Rattle.meaning.specs.Image.{string_in}
use Rattle.theory.specs.Layout.{word_at, bit_place, sample_word}

-- of k blocks from block `from` on, the j-th of which is right if `Right j` holds: r is the lowest
-- that is wrong, or 0 if none is
pub data LowestWrong (Right : ℕ → Type 0) (from k r : ℕ) : Type 0 where
  none : r ≡ 0 → ((j : ℕ) → j < k → Right j) → LowestWrong Right from k r
  here : (j : ℕ) → j < k → r ≡ from + j → ((i : ℕ) → i < j → Right i) → (Right j → ⊥) → LowestWrong Right from k r

-- block j of a string of n bits whose blocks begin at block `first`: its word 0 counts the ones of
-- earlier blocks, and its bits after the last of the string are zero
pub record BlockKept (bytes : List ℕ) (first n j : ℕ) : Type 0 where
  pub count : word_at bytes (512 * (first + j)) ≡ ones (string_in bytes first 0 (4000 * j))
  pub unused : (i : ℕ) → n ≤ i → 4000 * j ≤ i → i < 4000 * j + 4000 → bit_at bytes (bit_place first i) ≡ O

-- block j of a list of k numbers, from block `from` on: zeros in the words after the last number
abbrev pub RestKept : List ℕ → ℕ → ℕ → ℕ → Type 0
RestKept bytes from k j = (w : ℕ) → w < 126 → k ≤ 126 * j + w → word_at bytes (512 * (from + j) + 4 * w) ≡ 0

-- block j of the samples of r: each word is its sample, and after the last sample zero
abbrev pub BlockSampled : List ℕ → ℕ → List Bit → ℕ → Type 0
BlockSampled bytes from r j = (w : ℕ) → w < 126 → word_at bytes (512 * (from + j) + 4 * w) ≡ sample_word r j w
