-- The first n bytes of a word, the first least significant, each in a lane of eight digits: numbers
-- that are made of all of them at once, each in the lane of its byte.
use Rattle.std.specs.Prelude.{List, [], ◌++◌, ℕ, zero, suc, ◌+◌, ◌*◌, ◌/◌, ◌%◌}
use Rattle.meaning.specs.Strings.{Bit, ones}
use Rattle.bits_byte.specs.Byte.{byte_bits}

-- their bits, in the order of a tree string
unfoldable pub word_bits : ℕ → ℕ → List Bit
word_bits w zero = []
word_bits w (suc n) = byte_bits (w % 256) ++ word_bits (w / 256) n

-- a number of each of the bytes
unfoldable pub each : (ℕ → ℕ) → ℕ → ℕ → ℕ
each f w zero = 0
each f w (suc n) = each f (w / 256) n * 256 + f (w % 256)

-- the ones of a byte
abbrev pub ones_in : ℕ → ℕ
ones_in x = ones (byte_bits x)

-- the ones of the bytes before each, and c more
unfoldable pub ones_earlier : ℕ → ℕ → ℕ → ℕ
ones_earlier c w zero = 0
ones_earlier c w (suc n) = ones_earlier (c + ones_in (w % 256)) (w / 256) n * 256 + c
