-- The sizes that joining takes (document 01, code 2).
use Rattle.std.specs.Prelude.{◌≡◌, Bool, true, false, ℕ, ◌+◌, ◌*◌, ◌≤◌}
use Rattle.meaning.specs.Bytes.{bytes_for}
use Rattle.meaning.specs.Tests.{wrong_to_join}

-- all sizes are right
pub record JoinSized (lent L k nodes : ℕ) : Type 0 where
  pub some : 1 ≤ nodes
  pub most : nodes ≤ 65535
  pub bytes : bytes_for L ≤ lent
  pub room : k ≤ 255
  pub fits : L + (2 * nodes + 1) ≤ 131071

-- what the test of the sizes tells
abbrev pub JoinSizes : Bool → ℕ → ℕ → ℕ → ℕ → Type 0
JoinSizes true bytes L k nodes = wrong_to_join bytes L k nodes ≡ true
JoinSizes false bytes L k nodes = JoinSized bytes L k nodes
