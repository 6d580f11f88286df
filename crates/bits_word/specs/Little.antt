-- Bytes as a number the way they are stored.
use Rattle.std.specs.Prelude.{List, ℕ, zero, suc, ◌+◌, ◌*◌}
use Rattle.meaning.specs.Bytes.{bits_from, number}

-- the number that n bytes from byte i on write, the first byte least significant
unfoldable pub little : List ℕ → ℕ → ℕ → ℕ
little bytes i zero = 0
little bytes i (suc n) = little bytes (suc i) n * 256 + number 8 (bits_from bytes (8 * i) 8)
