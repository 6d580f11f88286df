-- What the small checks of a string of an image look at: bytes that are zero, the ones among its
-- first bits, the word 0 of its blocks, and the bits after its last.
use Rattle.std.specs.Prelude.{◌≡◌, List, ℕ, ◌+◌, ◌*◌, ◌≤◌, ◌<◌, get_or}
use Rattle.meaning.specs.Strings.{O, ones}
use Rattle.meaning.specs.Bytes.{bit_at}
use Rattle.meaning.specs.Image.{string_blocks, string_in}
use Rattle.theory.specs.Layout.{word_at}

-- the bytes from `from` to before `to` are zero
abbrev pub ZeroBytes : List ℕ → ℕ → ℕ → Type 0
ZeroBytes bytes from to = (i : ℕ) → from ≤ i → i < to → get_or bytes i 0 ≡ 0

-- how many of the first p bits are one, of the string whose blocks begin at block f
abbrev pub ones_to : List ℕ → ℕ → ℕ → ℕ
ones_to bytes f p = ones (string_in bytes f 0 p)

-- word 0 of each block of a string of n bits is the number of ones in earlier blocks
abbrev pub Counted : List ℕ → ℕ → ℕ → Type 0
Counted bytes first n = (j : ℕ) → j < string_blocks n → word_at bytes (512 * (first + j)) ≡ ones (string_in bytes first 0 (4000 * j))

-- of the 4,000 bits from byte `at` on, those after the first `used` are zero
abbrev pub Unused : List ℕ → ℕ → ℕ → Type 0
Unused bytes at used = (i : ℕ) → used ≤ i → i < 4000 → bit_at bytes (8 * at + i) ≡ O
