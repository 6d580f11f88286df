-- What numbering the nodes of a text needs, and what is written on the way.
use Rattle.std.specs.Prelude.{◌≡◌, List, ℕ, suc, ◌≤◌, ◌<◌, length, get_or}
use Rattle.meaning.specs.Trees.{Tree, nodes}
use Rattle.meaning.specs.Parents.{parents}
use Rattle.meaning.specs.Brackets.{brackets, tree_in}
use Rattle.meaning.specs.Text.{brackets_in}
use Rattle.text_walk.specs.Walk.{cursor, start, Started}

-- the text of a tree, with each level's cursor before the level's first node, and room for its
-- parent list
pub record ToNumber (text levels out : List ℕ) : Type 0 where
  pub whole : brackets (tree_in (brackets_in text)) ≡ brackets_in text
  pub ready : Started (tree_in (brackets_in text)) levels
  pub most : nodes (tree_in (brackets_in text)) ≤ 65535
  pub room : nodes (tree_in (brackets_in text)) ≤ length out

-- the parents of the nodes up to each level's cursor are written, and nothing after the tree's own
pub record Numbered (t : Tree) (cs out before : List ℕ) : Type 0 where
  pub size : length out ≡ length before
  pub up : (e j : ℕ) → e ≤ 64 → start t e ≤ j → j < cursor cs (suc e) → get_or out j 0 ≡ get_or (parents t) j 0
  pub kept : (j : ℕ) → nodes t ≤ j → get_or out j 0 ≡ get_or before j 0
