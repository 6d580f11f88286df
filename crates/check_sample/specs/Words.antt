-- The words of samples: where each is, the one that it names, and zeros after the last.
use Rattle.std.specs.Prelude.{◌≡◌, List, ℕ, ◌+◌, ◌-◌, ◌*◌, ◌≤◌, ◌<◌}
use Rattle.meaning.specs.Strings.{I, ones}
use Rattle.meaning.specs.Bytes.{bit_at, bits_from}
use Rattle.theory.specs.Layout.{sample_in}
use Rattle.theory.specs.Stages.{word_blocks, samples_of}
use Rattle.check_sample.specs.declared.Piece.{Piece}

-- how many bits a piece has
abbrev pub bits_in : Piece → ℕ
bits_in piece = piece.last + 1 - piece.first

-- of n bits from byte `at` on, the first of which has position `first` in their string: the
-- position of one number `nth` of them, from 1
abbrev pub NamesOne : List ℕ → ℕ → ℕ → ℕ → ℕ → ℕ → Type 0
NamesOne bytes at n first nth place =
    (p : ℕ) → p < n → bit_at bytes (8 * at + p) ≡ I → ones (bits_from bytes (8 * at) p) + 1 ≡ nth → place ≡ first + p

-- zeros in the words after k numbers, whose blocks begin at block `from`
abbrev pub ListEnds : List ℕ → ℕ → ℕ → Type 0
ListEnds bytes from k = (q : ℕ) → k ≤ q → q < 126 * word_blocks k → sample_in bytes from q ≡ 0

-- and after the samples of m ones
abbrev pub RestZero : List ℕ → ℕ → ℕ → Type 0
RestZero bytes from m = ListEnds bytes from (samples_of m)
