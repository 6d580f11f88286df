-- The image of a tree and of its metres, if it has any, block by block, and which bytes are one
-- (document 01, "Image", and document 02, item 2).
use Rattle.std.specs.Prelude.{◌≡◌, Bool, true, false, cond, ◌&&◌, List, [], ◌∷◌, ◌++◌, map, ℕ, zero, suc, ◌+◌, ◌*◌, ◌/◌, ◌%◌, ◌^◌, ◌≤◌, ◌<◌, leb, eqb, length, get_or, take}
use Rattle.std.proofs.Math.Option.{Option, none, some}
use Rattle.meaning.specs.Trees.{Tree, nodes}
use Rattle.meaning.specs.Parents.{bad_entry}
use Rattle.meaning.specs.Strings.{Bit, ones, positions, lbs, R1, R0, parents_of, string_of, woven}
use Rattle.meaning.specs.Bytes.{bit_at, bytes_of}
use Rattle.meaning.specs.Blocks.{le32, word_bytes, words, word_at, sum_start, cut, sealed, same}

-- ---- What an image holds: a tree and, in version 2, a number of metres for each node.

pub record Content : Type 0 where
  pub tree : Tree
  pub metres : Option (List ℕ)

-- where there are metres, one 32-bit number for each of n nodes
abbrev pub Measured : ℕ → Option (List ℕ) → Type 0
Measured n none = Unit
Measured n (some ms) = (length ms ≡ n) × ((i : ℕ) → i < n → get_or ms i 0 < 2 ^ 32)

-- 1 to 65,535 nodes
pub record FitImage (c : Content) : Type 0 where
  pub small : nodes c.tree ≤ 65535
  pub measured : Measured (nodes c.tree) c.metres

-- are there any?
abbrev pub present : Option (List ℕ) → Bool
present none = false
present (some ms) = true

abbrev pub version_of : Option (List ℕ) → ℕ
version_of none = 1
version_of (some ms) = 2

-- the numbers that are stored: without metres none
abbrev pub list_of : Option (List ℕ) → List ℕ
list_of none = []
list_of (some ms) = ms

-- ---- The blocks of a list of numbers, samples and metres alike: one word each, 126 to a block.

-- the blocks that k words take
abbrev pub word_blocks : ℕ → ℕ
word_blocks k = (k + 125) / 126

abbrev pub list_part : List ℕ → List (List ℕ)
list_part ws = map word_bytes (cut (word_blocks (length ws)) 126 ws)

-- ---- The blocks of a string: the number of ones in earlier blocks, then 4,000 bits.

abbrev pub string_blocks : ℕ → ℕ
string_blocks bits = (bits + 3999) / 4000

-- the payloads of a string's parts, with c ones in earlier blocks
unfoldable pub string_payloads : List (List Bit) → ℕ → List (List ℕ)
unfolding bytes_of
string_payloads [] c = []
string_payloads (x ∷ xs) c = (le32 c ++ bytes_of 500 x) ∷ string_payloads xs (c + ones x)

-- ---- Samples: the positions, from 1, of ones number 1, 65, 129 and so on.

-- of a list, the numbers that k others come before, 63 more before the next, and so on
unfoldable pub sampled : List ℕ → ℕ → List ℕ
sampled [] k = []
sampled (x ∷ xs) zero = x ∷ sampled xs 63
sampled (x ∷ xs) (suc k) = sampled xs k

unfoldable pub samples : List Bit → List ℕ
unfolding positions sampled
samples bs = sampled (positions bs 1) 0

-- ---- The image: the header, R1, R0, samples of R1, samples of R0, metres; each starts a block.

-- the blocks of one string, and those of its samples
abbrev pub string_part : List Bit → List (List ℕ)
string_part r = string_payloads (cut (string_blocks (length r)) 4000 r) 0

abbrev pub sample_part : List Bit → List (List ℕ)
sample_part r = list_part (samples r)

unfoldable pub payloads : Option (List ℕ) → List Bit → List Bit → List (List ℕ)
unfolding string_payloads samples word_bytes cut
payloads ms r1 r0 = string_part r1 ++ string_part r0 ++ sample_part r1 ++ sample_part r0 ++ list_part (list_of ms)

-- words version, n, m, number of blocks
unfoldable pub header : Option (List ℕ) → List Bit → List Bit → List ℕ
unfolding payloads word_bytes
header ms r1 r0 = word_bytes (version_of ms ∷ length r1 ∷ ones r1 ∷ suc (length (payloads ms r1 r0)) ∷ [])

unfoldable pub image_of_parts : Option (List ℕ) → List Bit → List Bit → List ℕ
unfolding header payloads sealed
image_of_parts ms r1 r0 = sealed sum_start (header ms r1 r0 ∷ payloads ms r1 r0) 0

unfoldable pub image_of_string : Option (List ℕ) → List Bit → List ℕ
unfolding image_of_parts R1 R0
image_of_string ms bs = image_of_parts ms (R1 bs) (R0 bs)

unfoldable pub image : Content → List ℕ
unfolding image_of_string lbs
image c = image_of_string c.metres (lbs c.tree)

-- ---- The layout by the version, n and m: which block each part begins at, and how many there are.

-- how many samples m ones have, and the blocks that they take
abbrev pub samples_of : ℕ → ℕ
samples_of m = (m + 63) / 64

abbrev pub blocks_of_samples : ℕ → ℕ
blocks_of_samples m = word_blocks (samples_of m)

-- R1 begins at block 1
abbrev pub r0_block : ℕ → ℕ
r0_block n = 1 + string_blocks n

abbrev pub r1_samples : ℕ → ℕ
r1_samples n = r0_block n + string_blocks (n + 1)

-- where the metres begin, if there are any
abbrev pub metres_block : ℕ → ℕ → ℕ
metres_block n m = r1_samples n + (blocks_of_samples m + blocks_of_samples m)

-- how many numbers of metres there are in version v: n in version 2, in others none
abbrev pub metres_held : ℕ → ℕ → ℕ
metres_held v n = cond (eqb v 2) n 0

abbrev pub blocks_needed : ℕ → ℕ → ℕ → ℕ
blocks_needed v n m = metres_block n m + word_blocks (metres_held v n)

-- ---- Reading an image.

-- word number i of block 0
unfoldable pub header_word : List ℕ → ℕ → ℕ
unfolding words
header_word bytes i = get_or (words (take 504 bytes)) i 0

-- n bits, after the first i, of the string whose blocks begin at block b
unfoldable pub string_in : List ℕ → ℕ → ℕ → ℕ → List Bit
unfolding bit_at
string_in bytes b i zero = []
string_in bytes b i (suc n) = bit_at bytes (8 * (512 * (b + i / 4000) + 4) + i % 4000) ∷ string_in bytes b (suc i) n

-- n words, after the first i, of the list whose blocks begin at block b
unfoldable pub numbers_in : List ℕ → ℕ → ℕ → ℕ → List ℕ
unfolding word_at
numbers_in bytes b i zero = []
numbers_in bytes b i (suc n) = word_at bytes (512 * (b + i / 126) + 4 * (i % 126)) ∷ numbers_in bytes b (suc i) n

-- the parent list that the two strings give, with n as the header has it
unfoldable pub parents_in : List ℕ → List ℕ
unfolding header_word string_in woven parents_of
parents_in bytes =
    let n = header_word bytes 1 in
    parents_of (woven (string_in bytes 1 0 n) (string_in bytes (1 + string_blocks n) 0 (n + 1)))

-- the metres, if the version is 2: n words behind the samples, with n and m as the header has them
unfoldable pub metres_in : List ℕ → Option (List ℕ)
unfolding header_word numbers_in
metres_in bytes =
    let n = header_word bytes 1 in
    cond (eqb (header_word bytes 0) 2) (some (numbers_in bytes (metres_block n (header_word bytes 2)) 0 n)) none

-- a parent list of 1 to 65,535 numbers
unfoldable pub is_tree : List ℕ → Bool
unfolding bad_entry
is_tree ps = leb 1 (length ps) && leb (length ps) 65535 && eqb (bad_entry ps) 0

-- the bytes are an image exactly if that list is a tree's and sealing it, with the metres, gives
-- these bytes
unfoldable pub is_image : List ℕ → Bool
unfolding parents_in metres_in is_tree string_of image_of_string
is_image bytes = let ps = parents_in bytes in is_tree ps && same (image_of_string (metres_in bytes) (string_of ps)) bytes
