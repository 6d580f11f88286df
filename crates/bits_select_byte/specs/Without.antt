-- Bits of which the first ones are removed.
use Rattle.std.specs.Prelude.{◌≡◌, List, ℕ, ◌+◌, ◌-◌, ◌≤◌, ◌<◌}
use Rattle.meaning.specs.Strings.{Bit, ones}
use Rattle.theory.specs.Rank.{position}

-- of the ones of `bits` the first n are not in `left`, and the others are d places nearer to the
-- front there
pub record Without (n d : ℕ) (bits left : List Bit) : Type 0 where
  pub count : ones left ≡ ones bits - n
  pub place : (k : ℕ) → n < k → k ≤ ones bits → position left (k - n) + d ≡ position bits k
