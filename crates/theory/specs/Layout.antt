-- The image word by word (document 01, "Image"): what each word must be for two strings to give
-- these bytes.
use Rattle.std.specs.Prelude.{◌≡◌, List, [], ◌∷◌, ℕ, zero, suc, ◌+◌, ◌*◌, ◌/◌, ◌%◌, ◌<◌, length, get_or, take, drop}
use Rattle.std.proofs.Math.Option.{Option}
use Rattle.meaning.specs.Strings.{Bit, O, I, ones}
use Rattle.meaning.specs.Bytes.{number}
unfoldable pub use Rattle.meaning.specs.Blocks.{word_at}
use Rattle.meaning.specs.Blocks.{wrong_block}
use Rattle.meaning.specs.Image.{version_of, list_of, word_blocks, string_blocks, samples}

-- bits that are the marks of k runs: k ones, the last bit among them
abbrev pub Runs : ℕ → List Bit → Type 0
Runs zero [] = Unit
Runs zero (x ∷ bs) = ⊥
Runs (suc k) [] = ⊥
Runs (suc k) (O ∷ bs) = Runs (suc k) bs
Runs (suc k) (I ∷ bs) = Runs k bs

abbrev pub AreBytes : List ℕ → Type 0
AreBytes bytes = (i : ℕ) → i < length bytes → get_or bytes i 0 < 256

-- where bit i of a string is whose blocks begin at block `from`
abbrev pub bit_place : ℕ → ℕ → ℕ
bit_place from i = 8 * (512 * (from + i / 4000) + 4) + i % 4000

-- where number w, from 0, is of a list whose blocks begin at block `from`: a sample, or a node's
-- metres
abbrev pub sample_place : ℕ → ℕ → ℕ
sample_place from w = 512 * (from + w / 126) + 4 * (w % 126)

-- the word there
abbrev pub sample_in : List ℕ → ℕ → ℕ → ℕ
sample_in bytes from w = word_at bytes (sample_place from w)

-- the word of the first 32 bits: four bytes, each most significant bit first
unfoldable pub bit_word : List Bit → ℕ
bit_word bs = number 8 bs + 256 * number 8 (drop 8 bs) + 65536 * number 8 (drop 16 bs) + 16777216 * number 8 (drop 24 bs)

-- word w of block j of a string: the number of ones in earlier blocks, then the bits; after the
-- last bit zero
unfoldable pub string_word : List Bit → ℕ → ℕ → ℕ
unfolding bit_word
string_word r j zero = ones (take (4000 * j) r)
string_word r j (suc w) = bit_word (drop (4000 * j + 32 * w) r)

-- word w of block j of a list of numbers; after the last of them zero
abbrev pub list_word : List ℕ → ℕ → ℕ → ℕ
list_word ws j w = get_or ws (126 * j + w) 0

-- word w of block j of a string's samples
unfoldable pub sample_word : List Bit → ℕ → ℕ → ℕ
sample_word r j w = list_word (samples r) j w

-- where the blocks of R0, of the samples of R1, of the samples of R0 and of the metres begin
module _ (a b : List Bit) where
  abbrev pub start_r0 : ℕ
  start_r0 = 1 + string_blocks (length a)

  abbrev pub start_s1 : ℕ
  start_s1 = start_r0 + string_blocks (length b)

  abbrev pub start_s0 : ℕ
  start_s0 = start_s1 + word_blocks (length (samples a))

  abbrev pub start_metres : ℕ
  start_metres = start_s0 + word_blocks (length (samples b))

-- how many blocks there are
abbrev pub total : Option (List ℕ) → List Bit → List Bit → ℕ
total ms a b = start_metres a b + word_blocks (length (list_of ms))

-- these bytes are laid out for R1 = a and R0 = b with the metres ms, if there are any
pub record Laid (bytes : List ℕ) (ms : Option (List ℕ)) (a b : List Bit) : Type 0 where
  pub size : length bytes ≡ 512 * total ms a b
  pub sums : wrong_block bytes ≡ total ms a b
  pub head : (w : ℕ) → w < 126 → word_at bytes (4 * w) ≡ get_or (version_of ms ∷ length a ∷ ones a ∷ total ms a b ∷ []) w 0
  pub in_r1 : (j w : ℕ) → 1 + j < start_r0 a b → w < 126 → word_at bytes (512 * (1 + j) + 4 * w) ≡ string_word a j w
  pub in_r0 : (j w : ℕ) → start_r0 a b + j < start_s1 a b → w < 126 → word_at bytes (512 * (start_r0 a b + j) + 4 * w) ≡ string_word b j w
  pub in_s1 : (j w : ℕ) → start_s1 a b + j < start_s0 a b → w < 126 → word_at bytes (512 * (start_s1 a b + j) + 4 * w) ≡ sample_word a j w
  pub in_s0 : (j w : ℕ) → start_s0 a b + j < start_metres a b → w < 126 → word_at bytes (512 * (start_s0 a b + j) + 4 * w) ≡ sample_word b j w
  pub in_metres : (j w : ℕ) → start_metres a b + j < total ms a b → w < 126 → word_at bytes (512 * (start_metres a b + j) + 4 * w) ≡ list_word (list_of ms) j w
