-- Where the children of a node are.
use Rattle.std.specs.Prelude.{◌≡◌, List, ℕ, ◌+◌}
use Rattle.theory.specs.ByStrings.{ones_before_by}
use Rattle.theory.specs.Stages.{read_r1, read_r0}
use Rattle.nav_children.specs.declared.Children.{Children}

-- the children of node x are the nodes after number `after`, up to number `last`
pub record ChildrenAt (bytes : List ℕ) (x : ℕ) (r : Children) : Type 0 where
  pub after : r.after ≡ ones_before_by (read_r1 bytes) (read_r0 bytes) x
  pub last : r.last ≡ ones_before_by (read_r1 bytes) (read_r0 bytes) (x + 1)
