-- The pass that marks the runs of a parent list in a lent image: what it needs, what it writes, and
-- that it changes nothing else.
use Rattle.std.specs.Prelude.{◌≡◌, cond, List, ℕ, ◌+◌, ◌*◌, ◌-◌, ◌/◌, ◌%◌, ◌<◌, ◌≤◌, ltb, length, get_or, set}
use Rattle.meaning.specs.Parents.{bad_entry}
use Rattle.meaning.specs.Strings.{Bit, O, ones, R1, R0, string_of}
use Rattle.meaning.specs.Bytes.{bit_at}
use Rattle.meaning.specs.Image.{string_blocks, samples}
use Rattle.theory.specs.Layout.{word_at, bit_place, sample_place}
use Rattle.theory.specs.Rank.{position}
use Rattle.theory.specs.Stages.{blocks_of_samples, r0_block, r1_samples, metres_block}
use Rattle.bits_byte.specs.Byte.{byte_bits}
use Rattle.image_words.specs.Words.{with_word}
use Rattle.seal_r1_bits.specs.Listed.{runs_in}

-- ---- a string in an image

-- the bits of r in B blocks from block `from` on, and its samples in S blocks from block `at` on;
-- after the last of each there are zeros
pub record Part (bytes : List ℕ) (from B at S : ℕ) (r : List Bit) : Type 0 where
  pub bits : (i : ℕ) → i < 4000 * B → bit_at bytes (bit_place from i) ≡ get_or r i O
  pub words : (w : ℕ) → w < 126 * S → word_at bytes (sample_place at w) ≡ get_or (samples r) w 0

-- ---- the pass over the list

-- the blocks of the tree alone: the header, both strings and their samples
abbrev pub tree_blocks : List ℕ → ℕ
tree_blocks ps = metres_block (length ps) (runs_in ps)

-- zeros in B blocks from block `from` on
abbrev pub Blank : List ℕ → ℕ → ℕ → Type 0
Blank bytes from B = (q : ℕ) → 512 * from ≤ q → q < 512 * (from + B) → get_or bytes q 0 ≡ 0

-- byte q is in none of these blocks
abbrev pub Outside : ℕ → ℕ → ℕ → Type 0
Outside from B q = 512 * from ≤ q → q < 512 * (from + B) → ⊥

-- ---- R1 byte by byte

-- where byte number c of a string is whose blocks begin at block `from`
abbrev pub byte_place : ℕ → ℕ → ℕ
byte_place from c = 512 * (from + c / 500) + 4 + c % 500

-- byte number b of R1 put, which k ones come before, and the sample of the one that has one
unfoldable pub byte_marked : List ℕ → ℕ → ℕ → ℕ → ℕ → List ℕ
byte_marked bytes first b x k =
    let put = set bytes (byte_place 1 b) x in
    let s = (k + 63) / 64 in
    cond (ltb (64 * s) (k + ones (byte_bits x))) (with_word put (sample_place first s) (8 * b + position (byte_bits x) (64 * s + 1 - k))) put

-- R1 and its samples are there
pub record R1Written (old bytes ps : List ℕ) (first : ℕ) : Type 0 where
  pub part : Part bytes 1 (string_blocks (length ps)) first (blocks_of_samples (runs_in ps)) (R1 (string_of ps))
  pub apart : (q : ℕ) → Outside 1 (string_blocks (length ps)) q → Outside first (blocks_of_samples (runs_in ps)) q → get_or bytes q 0 ≡ get_or old q 0

-- ---- R0, and then its samples

pub record R0Written (old bytes ps : List ℕ) (zeros : ℕ) : Type 0 where
  pub bits : (i : ℕ) → i < 4000 * string_blocks (length ps + 1) → bit_at bytes (bit_place zeros i) ≡ get_or (R0 (string_of ps)) i O
  pub apart : (q : ℕ) → Outside zeros (string_blocks (length ps + 1)) q → get_or bytes q 0 ≡ get_or old q 0

-- the samples of R1, one by one
abbrev pub R1SamplesKnown : List ℕ → List ℕ → ℕ → Type 0
R1SamplesKnown bytes ps first = (w : ℕ) → 64 * w < runs_in ps → word_at bytes (sample_place first w) ≡ position (R1 (string_of ps)) (64 * w + 1)

pub record R0SamplesWritten (old bytes ps : List ℕ) (second : ℕ) : Type 0 where
  pub words : (w : ℕ) → w < 126 * blocks_of_samples (runs_in ps) → word_at bytes (sample_place second w) ≡ get_or (samples (R0 (string_of ps))) w 0
  pub apart : (q : ℕ) → Outside second (blocks_of_samples (runs_in ps)) q → get_or bytes q 0 ≡ get_or old q 0

-- ---- all of it

-- a parent list, and the first so many bytes zero
pub record RoomForStrings (bytes ps : List ℕ) (zeros first second : ℕ) : Type 0 where
  pub some : 1 ≤ length ps
  pub most : length ps ≤ 65535
  pub good : bad_entry ps ≡ 0
  pub is_r0 : zeros ≡ r0_block (length ps)
  pub is_first : first ≡ r1_samples (length ps)
  pub is_second : second ≡ r1_samples (length ps) + blocks_of_samples (runs_in ps)
  pub room : 512 * tree_blocks ps ≤ length bytes
  pub blank : (q : ℕ) → q < 512 * tree_blocks ps → get_or bytes q 0 ≡ 0

-- the two strings and their samples are there
pub record StringsWritten (old bytes ps : List ℕ) : Type 0 where
  pub first : Part bytes 1 (string_blocks (length ps)) (r1_samples (length ps)) (blocks_of_samples (runs_in ps)) (R1 (string_of ps))
  pub second : Part bytes (r0_block (length ps)) (string_blocks (length ps + 1)) (r1_samples (length ps) + blocks_of_samples (runs_in ps)) (blocks_of_samples (runs_in ps)) (R0 (string_of ps))
  pub head : (q : ℕ) → q < 512 → get_or bytes q 0 ≡ 0
  pub tail : (q : ℕ) → 512 * tree_blocks ps ≤ q → get_or bytes q 0 ≡ get_or old q 0
