-- A bit set in a lent buffer.
use Rattle.std.specs.Prelude.{List, ℕ, ◌/◌, ◌%◌, ◌^◌, get_or, set}
use Rattle.std.specs.Int.Bits.{bit_or}

-- the bit that p bits come before, set
unfoldable pub lit : List ℕ → ℕ → List ℕ
lit bytes p = set bytes (p / 8) (bit_or (get_or bytes (p / 8) 0) (128 / 2 ^ (p % 8)))
