-- The samples of some bits of a string.
use Rattle.std.specs.Prelude.{◌≡◌, List, ℕ, ◌+◌, ◌*◌, ◌/◌, ◌%◌, ◌<◌}
use Rattle.meaning.specs.Strings.{I, ones}
use Rattle.meaning.specs.Bytes.{bit_at, bits_from}
use Rattle.theory.specs.Layout.{sample_in}

-- a one that k others come before has a sample, its position from 1, if 64 divides k
abbrev pub SampledHere : List ℕ → ℕ → ℕ → ℕ → Type 0
SampledHere bytes from k place = k % 64 ≡ 0 → sample_in bytes from (k / 64) ≡ place

-- of n bits from byte `at` on, the first of which has position `first` in their string, and which k
-- ones come before: the ones that have samples
abbrev pub PieceSampled : List ℕ → ℕ → ℕ → ℕ → ℕ → ℕ → Type 0
PieceSampled bytes from at n first k =
    (p : ℕ) → p < n → bit_at bytes (8 * at + p) ≡ I → SampledHere bytes from (k + ones (bits_from bytes (8 * at) p)) (first + p)
