-- The last one before a bit and the first one from a bit on, of the bits after the first q.
use Rattle.std.specs.Prelude.{◌≡◌, List, Option, Some, None, ℕ, ◌+◌, ◌-◌, ◌≤◌, ◌<◌}
use Rattle.meaning.specs.Bytes.{bit_at, value}

-- there is no one from bit `from` on up to bit `to`
abbrev pub Clear : List ℕ → ℕ → ℕ → ℕ → Type 0
Clear bytes q from to = (k : ℕ) → from ≤ k → k < to → value (bit_at bytes (q + k)) ≡ 0

-- the first r of the first n bits end with the last one among these
pub record IsLast (bytes : List ℕ) (q n r : ℕ) : Type 0 where
  pub some : 1 ≤ r
  pub within : r ≤ n
  pub found : value (bit_at bytes (q + (r - 1))) ≡ 1
  pub clear : Clear bytes q r n

-- so many of the first n bits end with the last one among these, if there is one
abbrev pub LastOne : List ℕ → ℕ → ℕ → Option ℕ → Type 0
LastOne bytes q n None = Clear bytes q 0 n
LastOne bytes q n (Some r) = IsLast bytes q n r

-- r of the first 4000 bits come before the first one that is not among the first n
pub record IsFirst (bytes : List ℕ) (q n r : ℕ) : Type 0 where
  pub from : n ≤ r
  pub within : r < 4000
  pub found : value (bit_at bytes (q + r)) ≡ 1
  pub clear : Clear bytes q n r

-- so many of the first 4000 bits come before the first one that is not among the first n, if there
-- is one
abbrev pub FirstOne : List ℕ → ℕ → ℕ → Option ℕ → Type 0
FirstOne bytes q n None = Clear bytes q n 4000
FirstOne bytes q n (Some r) = IsFirst bytes q n r
