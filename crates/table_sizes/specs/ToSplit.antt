-- The sizes that splitting takes (document 01, code 2).
use Rattle.std.specs.Prelude.{◌≡◌, Bool, true, false, ℕ, ◌≤◌}
use Rattle.meaning.specs.Bytes.{bytes_for}
use Rattle.meaning.specs.Tests.{wrong_to_split}

-- all sizes are right
pub record SplitSized (bytes L k : ℕ) : Type 0 where
  pub short : L ≤ 131071
  pub exact : bytes ≡ bytes_for L
  pub few : k ≤ 256

-- what the test of the sizes tells
abbrev pub SplitSizes : Bool → ℕ → ℕ → ℕ → Type 0
SplitSizes true bytes L k = wrong_to_split bytes L k ≡ true
SplitSizes false bytes L k = SplitSized bytes L k
