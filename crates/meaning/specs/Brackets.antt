-- A tree as brackets: I opens a node, its children follow, and O closes it (document 02, item 4;
-- source document 000, section 4.2.4).
use Rattle.std.specs.Prelude.{List, [], ◌∷◌, ◌++◌, ℕ, zero, suc, length}
use Rattle.meaning.specs.Trees.{Tree, Trees, node, none, ◌then◌}
use Rattle.meaning.specs.Strings.{Bit, O, I}
use Rattle.meaning.specs.Questions.{children_of}
use Rattle.meaning.specs.Listing.{for_each}

unfoldable mutual
  pub brackets : Tree → List Bit
  brackets (node f) = I ∷ (brackets_of f ++ O ∷ [])

  -- of trees side by side
  pub brackets_of : Trees → List Bit
  brackets_of none = []
  brackets_of (t then f) = brackets t ++ brackets_of f

-- ---- The way back, from the right: a closing bracket begins a list of trees, and an opening one
-- makes the innermost list a node of the list around it.

abbrev pub inserted : List Trees → List Trees
inserted [] = []
inserted (f ∷ []) = f ∷ []
inserted (f ∷ g ∷ fs) = (node f then g) ∷ fs

-- the lists that are begun and not yet a node's, innermost first
unfoldable pub lists : List Bit → List Trees
lists [] = none ∷ []
lists (O ∷ bs) = none ∷ lists bs
lists (I ∷ bs) = inserted (lists bs)

-- a single node where there is no tree
abbrev pub first_tree : List Trees → Tree
first_tree [] = node none
first_tree (none ∷ fs) = node none
first_tree ((t then f) ∷ fs) = t

unfoldable pub tree_in : List Bit → Tree
unfolding lists
tree_in bs = first_tree (lists bs)

-- ---- The brackets of a parent list.

-- node x and everything below it, down to f levels
unfoldable pub nested : ℕ → List ℕ → ℕ → List Bit
unfolding children_of
nested zero ps x = []
nested (suc f) ps x = I ∷ (for_each (λ c. nested f ps c) (children_of ps x) ++ O ∷ [])

-- all of it: no node is deeper than there are nodes
unfoldable pub bracketing : List ℕ → List Bit
unfolding nested
bracketing ps = nested (length ps) ps 1
