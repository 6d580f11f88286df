-- The stages of the check of an image whose blocks all check: what each looks at (document 01,
-- "Image").
use Rattle.std.specs.Prelude.{◌≡◌, List, ℕ, ◌+◌, ◌-◌, ◌*◌, ◌≤◌, ◌<◌, length, get_or, take}
use Rattle.meaning.specs.Strings.{Bit, O, I, ones}
use Rattle.meaning.specs.Bytes.{bit_at}
use Rattle.meaning.specs.Blocks.{blocks_in}
use Rattle.meaning.specs.Image.{string_blocks, string_in}
pub use Rattle.meaning.specs.Image.{word_blocks, samples_of, blocks_of_samples, r0_block, r1_samples, metres_block, metres_held, blocks_needed}
use Rattle.theory.specs.Layout.{word_at, bit_place, sample_word}
use Rattle.theory.specs.Faults.{RestKept}

-- n and m, as the header has them
abbrev pub nodes_of : List ℕ → ℕ
nodes_of bytes = word_at bytes 4

abbrev pub runs_of : List ℕ → ℕ
runs_of bytes = word_at bytes 8

-- the two strings, as the blocks have them
abbrev pub read_r1 : List ℕ → List Bit
read_r1 bytes = string_in bytes 1 0 (nodes_of bytes)

abbrev pub read_r0 : List ℕ → List Bit
read_r0 bytes = string_in bytes (r0_block (nodes_of bytes)) 0 (nodes_of bytes + 1)

-- the version, and how many numbers of metres there are by it
abbrev pub version_in : List ℕ → ℕ
version_in bytes = word_at bytes 0

abbrev pub held_in : List ℕ → ℕ
held_in bytes = metres_held (version_in bytes) (nodes_of bytes)

-- the versions that there are
pub record Known (v : ℕ) : Type 0 where
  pub some : 1 ≤ v
  pub most : v ≤ 2

-- the header after the version: n, m and the number of blocks, taken together, and the reserved
-- words
pub record Header (bytes : List ℕ) : Type 0 where
  pub some : 1 ≤ nodes_of bytes
  pub most : nodes_of bytes ≤ 65535
  pub runs_some : 1 ≤ runs_of bytes
  pub runs_most : runs_of bytes ≤ nodes_of bytes
  pub runs_two : 2 ≤ nodes_of bytes → 2 ≤ runs_of bytes
  pub blocks : word_at bytes 12 ≡ blocks_in bytes
  pub needed : blocks_in bytes ≡ blocks_needed (version_in bytes) (nodes_of bytes) (runs_of bytes)
  pub reserved : (w : ℕ) → 4 ≤ w → w < 126 → word_at bytes (4 * w) ≡ 0

-- a string of m runs: m ones, the last bit among them
pub record Ended (m : ℕ) (r : List Bit) : Type 0 where
  pub count : ones r ≡ m
  pub last : get_or r (length r - 1) O ≡ I

-- two strings in step: the first run of ones is the root alone, and before the last bit R1 never
-- has more runs after it than R0
pub record InStep (a b : List Bit) : Type 0 where
  pub first : get_or a 0 O ≡ I
  pub never : (p : ℕ) → p < length a → ones (take p a) ≤ ones (take p b)

-- the blocks of a string r, from block `from` on: the count of earlier ones, and zeros after the
-- last bit
pub record CountsAndPadding (bytes : List ℕ) (from : ℕ) (r : List Bit) : Type 0 where
  pub counts : (j : ℕ) → j < string_blocks (length r) → word_at bytes (512 * (from + j)) ≡ ones (take (4000 * j) r)
  pub unused : (i : ℕ) → length r ≤ i → i < 4000 * string_blocks (length r) → bit_at bytes (bit_place from i) ≡ O

-- the samples of a string with m ones, from block `from` on; zeros after the last
abbrev pub Sampled : List ℕ → ℕ → ℕ → List Bit → Type 0
Sampled bytes from m r = (j w : ℕ) → j < blocks_of_samples m → w < 126 → word_at bytes (512 * (from + j) + 4 * w) ≡ sample_word r j w

-- zeros in the words behind the last number of metres
abbrev pub MetresEnd : List ℕ → Type 0
MetresEnd bytes = (j : ℕ) → j < word_blocks (held_in bytes) → RestKept bytes (metres_block (nodes_of bytes) (runs_of bytes)) (held_in bytes) j

-- all stages pass
pub record Stages (bytes : List ℕ) : Type 0 where
  pub version : Known (version_in bytes)
  pub header : Header bytes
  pub ended1 : Ended (runs_of bytes) (read_r1 bytes)
  pub ended0 : Ended (runs_of bytes) (read_r0 bytes)
  pub in_step : InStep (read_r1 bytes) (read_r0 bytes)
  pub kept1 : CountsAndPadding bytes 1 (read_r1 bytes)
  pub kept0 : CountsAndPadding bytes (r0_block (nodes_of bytes)) (read_r0 bytes)
  pub sampled1 : Sampled bytes (r1_samples (nodes_of bytes)) (runs_of bytes) (read_r1 bytes)
  pub sampled0 : Sampled bytes (r1_samples (nodes_of bytes) + blocks_of_samples (runs_of bytes)) (runs_of bytes) (read_r0 bytes)
  pub metres_end : MetresEnd bytes
