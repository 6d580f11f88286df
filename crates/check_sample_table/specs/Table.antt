-- Tables of the ones of words of eight bytes.
use Rattle.std.specs.Prelude.{◌≡◌, List, ℕ, ◌+◌, ◌*◌, ◌<◌, get_or}
use Rattle.meaning.specs.Strings.{ones}
use Rattle.meaning.specs.Bytes.{bits_from}

-- a table of the ones in each of 63 words of eight bytes from byte `at` on, and one of the ones
-- before each
abbrev pub WordCounts : List ℕ → ℕ → List ℕ → Type 0
WordCounts bytes at table = (w : ℕ) → w < 63 → get_or table w 0 ≡ ones (bits_from bytes (8 * (at + 8 * w)) 64)

abbrev pub CountsBefore : List ℕ → ℕ → List ℕ → Type 0
CountsBefore bytes at table = (w : ℕ) → w < 63 → get_or table w 0 ≡ ones (bits_from bytes (8 * at) (64 * w))
