-- What writing the brackets of a tree needs.
use Rattle.std.specs.Prelude.{◌≡◌, Bool, ◌&&◌, List, ℕ, ◌*◌, ◌≤◌, ltb, eqb, length, get_or}
use Rattle.meaning.specs.Trees.{Tree}
use Rattle.meaning.specs.Parents.{parents}
use Rattle.text_walk.specs.Walk.{Started}

-- is the node after number `before` there, and a child of node x?
abbrev pub is_child : List ℕ → ℕ → ℕ → Bool
is_child ps before x = ltb before (length ps) && eqb (get_or ps before 0) x

-- the parent list of a tree, with each level's cursor before the level's first node, and room for
-- its brackets
pub record ToWrite (ps levels out : List ℕ) : Type 0 where
  pub tree : Tree
  pub same : parents tree ≡ ps
  pub ready : Started tree levels
  pub most : length ps ≤ 65535
  pub room : 2 * length ps ≤ length out
