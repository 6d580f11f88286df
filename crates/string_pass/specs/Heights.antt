-- The pending nodes on the way through each byte of a word, as heights in the lanes of the bytes.
use Rattle.std.specs.Prelude.{ℕ, zero, suc, ◌+◌, ◌-◌, ◌*◌, ◌/◌, ◌%◌, take}
use Rattle.std.specs.Int.Bits.{bit_and}
use Rattle.meaning.specs.Strings.{ones}
use Rattle.bits_byte.specs.Byte.{byte_bits}

-- a height, after the first i bits of a byte: a one adds one, a zero takes one away
abbrev pub height : ℕ → ℕ → ℕ → ℕ
height i h x = h + 2 * ones (take i (byte_bits x)) - i

-- the height after the first i bits of each, where h is that before the first byte
unfoldable pub heights : ℕ → ℕ → ℕ → ℕ → ℕ
heights i h w zero = 0
heights i h w (suc n) = heights i (height 8 h (w % 256)) (w / 256) n * 256 + height i h (w % 256)

-- 128, if every height after the first one to i bits of a byte has that digit, and else less
unfoldable pub stay : ℕ → ℕ → ℕ → ℕ
stay zero h x = 128
stay (suc i) h x = bit_and (stay i h x) (height (suc i) h x)

-- that number of each of the bytes, where h is the height before the first
unfoldable pub stays : ℕ → ℕ → ℕ → ℕ → ℕ
unfolding stay
stays i h w zero = 0
stays i h w (suc n) = stays i (height 8 h (w % 256)) (w / 256) n * 256 + stay i h (w % 256)
