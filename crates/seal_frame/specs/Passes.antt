-- The passes that fill the payloads of a lent image: what each writes, and that it changes nothing
-- else.
use Rattle.std.specs.Prelude.{None, Some, Option as AtBlock, ◌≡◌, List, ℕ, ◌+◌, ◌*◌, ◌%◌, ◌<◌, ◌≤◌, length, get_or, take}
use Rattle.std.proofs.Math.Option.{Option}
use Rattle.meaning.specs.Strings.{ones, R1, R0, string_of}
use Rattle.meaning.specs.Image.{version_of, string_blocks, blocks_needed, string_in}
use Rattle.theory.specs.Layout.{word_at}
use Rattle.image_words.specs.Words.{with_word}
use Rattle.seal_r1_bits.specs.Listed.{runs_in}
use Rattle.seal_frame.specs.Filled.{Filled}

-- ---- the counts of earlier ones, for the string of n bits that is from block `from` on

pub record CountsWritten (old bytes : List ℕ) (from n : ℕ) : Type 0 where
  pub counts : (j : ℕ) → j < string_blocks n → word_at bytes (512 * (from + j)) ≡ ones (take (4000 * j) (string_in old from 0 n))
  pub apart : (q : ℕ) → (512 * from ≤ q → q < 512 * (from + string_blocks n) → 4 ≤ q % 512) → get_or bytes q 0 ≡ get_or old q 0

-- ---- the header

-- the version of an image whose metres are there
abbrev pub version_at : AtBlock ℕ → ℕ
version_at None = 1
version_at (Some block) = 2

unfoldable pub headed : List ℕ → ℕ → ℕ → ℕ → ℕ → List ℕ
headed bytes v n m blocks = with_word (with_word (with_word (with_word bytes 0 v) 4 n) 8 m) 12 blocks

-- ---- all that comes before the sums

abbrev pub blocks_for : Option (List ℕ) → List ℕ → ℕ
blocks_for ms ps = blocks_needed (version_of ms) (length ps) (runs_in ps)

pub record Prepared (old bytes : List ℕ) (ms : Option (List ℕ)) (ps : List ℕ) : Type 0 where
  pub filled : Filled bytes ms (R1 (string_of ps)) (R0 (string_of ps))
  pub tail : (q : ℕ) → 512 * blocks_for ms ps ≤ q → get_or bytes q 0 ≡ get_or old q 0
