-- Ordinal trees, and their nodes in level order (document 01, "What the store holds").
use Rattle.std.specs.Prelude.{List, [], ◌∷◌, ◌++◌, map, ℕ, suc, length}

-- ---- A tree is a root with an ordered list of trees below it, its children.

mutual
  pub data Tree : Type 0 where
    node : Trees → Tree

  pub data Trees : Type 0 where
    none : Trees
    ◌then◌ : Tree → Trees → Trees

infixr 50 ◌then◌
abbrev pub listed : Trees → List Tree
listed none = []
listed (t then f) = t ∷ listed f

abbrev pub children : Tree → List Tree
children (node f) = listed f

abbrev pub degree : Tree → ℕ
degree t = length (children t)

-- ---- A node of a tree is known by its address: [] is the root's, and i ∷ a that of child number
-- i, from 1, of the node at a.

pub record Node : Type 0 where
  pub address : List ℕ
  pub below : Tree

abbrev pub depth : Node → ℕ
depth v = length v.address

abbrev pub degree_of : Node → ℕ
degree_of v = degree v.below

-- trees that are children number i and up of the node at a
abbrev pub sibling_nodes : Trees → List ℕ → ℕ → List Node
sibling_nodes none a i = []
sibling_nodes (t then f) a i = record { address = i ∷ a; below = t } ∷ sibling_nodes f a (suc i)

abbrev pub nodes_under : Tree → List ℕ → List Node
nodes_under (node f) a = sibling_nodes f a 1

-- the children of a node, in order
abbrev pub child_nodes : Node → List Node
child_nodes v = nodes_under v.below v.address

-- ---- Level order: depth by depth, and from left to right at each depth.

-- two lists of levels side by side: at each depth what the left has there, then what the right has
abbrev pub beside : {A : Type 0} → List (List A) → List (List A) → List (List A)
beside [] bs = bs
beside (a ∷ as') [] = a ∷ as'
beside (a ∷ as') (b ∷ bs) = (a ++ b) ∷ beside as' bs

-- the nodes of a tree whose root is at a: those at depth 0 below it, at depth 1, and so on
unfoldable mutual
  pub levels : Tree → List ℕ → List (List Node)
  levels (node f) a = (record { address = a; below = node f } ∷ []) ∷ levels_below f a 1

  -- of trees that are children number i and up of the node at a
  pub levels_below : Trees → List ℕ → ℕ → List (List Node)
  levels_below none a i = []
  levels_below (t then f) a i = beside (levels t (i ∷ a)) (levels_below f a (suc i))

abbrev pub end_to_end : {A : Type 0} → List (List A) → List A
end_to_end [] = []
end_to_end (x ∷ xs) = x ++ end_to_end xs

-- the nodes in the order of their numbers, 1 to n
unfoldable pub level_order : Tree → List Node
unfolding levels
level_order t = end_to_end (levels t [])

unfoldable pub nodes : Tree → ℕ
unfolding level_order
nodes t = length (level_order t)

unfoldable pub degrees : Tree → List ℕ
unfolding level_order
degrees t = map degree_of (level_order t)
