-- How the positions of the ones among bits are written.
use Rattle.std.specs.Prelude.{◌≡◌, List, ◌++◌, ℕ, ◌+◌, drop}
use Rattle.meaning.specs.Strings.{Bit, ones, positions}

-- the positions of the ones among bits that i bits come before, written so that the last is
-- before entry k: the first is at entry r
pub record Placed (bits : List Bit) (i k : ℕ) (old out : List ℕ) (r : ℕ) : Type 0 where
  pub count : r + ones bits ≡ k
  pub made : drop r out ≡ positions bits (i + 1) ++ drop k old
