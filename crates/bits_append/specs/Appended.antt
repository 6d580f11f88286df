-- Bits written into a lent buffer (document 01, "Splitting, joining, listing").
use Rattle.std.specs.Prelude.{List, ◌++◌, ℕ}
use Rattle.meaning.specs.Strings.{Bit}
use Rattle.meaning.specs.Bytes.{bits_from, packed}
use Rattle.meaning.specs.Answers.{written}

-- bits after the first `at` of a buffer: earlier bits stay, new leftover bits are zero, bytes after
-- the new last one stay
unfoldable pub appended : List ℕ → ℕ → List Bit → List ℕ
unfolding bits_from packed
appended bytes at new = written (packed (bits_from bytes 0 at ++ new)) bytes
