-- A walk through a tree along its brackets, with a cursor for each level: the number of the last
-- node that was opened there, or of the last node before the level where none was.
-- In depth-first order the nodes of each level come in the order of their numbers, so the cursors
-- are all that a walk has to know.
use Rattle.std.specs.Prelude.{◌≡◌, List, [], ◌∷◌, ◌++◌, ℕ, zero, suc, ◌+◌, ◌-◌, ◌≤◌, ◌<◌, length, get_or}
use Rattle.meaning.specs.Trees.{Tree, nodes}
use Rattle.meaning.specs.Strings.{Bit, O, lbs}
use Rattle.meaning.specs.Listing.{for_each}
use Rattle.meaning.specs.Brackets.{brackets}
use Rattle.theory.specs.Rank.{ones_before, counting}
use Rattle.theory.specs.Walks.{node_at}

-- the ones before zero z of a tree's string: node x has its children after number `low x`, up to
-- number `low (x + 1)`
unfoldable pub low : Tree → ℕ → ℕ
low t z = ones_before (lbs t) z

-- the cursor of level e; level 0 is that of the super-root, number 0
abbrev pub cursor : List ℕ → ℕ → ℕ
cursor cs e = get_or cs e 0

-- the brackets of the children of node x after number y
unfoldable pub after : Tree → ℕ → ℕ → List Bit
unfolding low
after t x y = for_each (λ c. brackets (node_at t c).below) (counting (suc y) (low t (suc x) - y))

-- what follows the children of the innermost of e open nodes
unfoldable pub closings : Tree → List ℕ → ℕ → List Bit
unfolding after
closings t cs zero = []
closings t cs (suc e) = O ∷ (after t (cursor cs e) (cursor cs (suc e)) ++ closings t cs e)

-- the brackets still to come where e nodes are open
abbrev pub to_come : Tree → List ℕ → ℕ → List Bit
to_come t cs e = after t (cursor cs e) (cursor cs (suc e)) ++ closings t cs e

-- on the way through a tree of at most 64 levels: o nodes are open, and these brackets come
pub record Walking (t : Tree) (cs : List ℕ) (o : ℕ) (rest : List Bit) : Type 0 where
  pub count : length cs ≡ 66
  pub base : cursor cs 0 ≡ 0
  pub few : o ≤ 64
  -- the next node of the level below an open node is one of its children, or comes after them
  pub among : (e : ℕ) → e ≤ o → (low t (cursor cs e) ≤ cursor cs (suc e)) × (cursor cs (suc e) ≤ low t (suc (cursor cs e)))
  -- below, all nodes under what was opened are over
  pub below : (e : ℕ) → o < e → e ≤ 64 → cursor cs (suc e) ≡ low t (suc (cursor cs e))
  pub last : nodes t ≤ cursor cs 65
  pub come : to_come t cs o ≡ rest

-- how many nodes are before level e + 1
unfoldable pub start : Tree → ℕ → ℕ
unfolding low
start t zero = 0
start t (suc e) = low t (suc (start t e))

-- cursors before the first node of each level, and none at level 65
pub record Started (t : Tree) (cs : List ℕ) : Type 0 where
  pub count : length cs ≡ 66
  pub base : cursor cs 0 ≡ 0
  pub each : (e : ℕ) → e ≤ 64 → cursor cs (suc e) ≡ start t e
  pub last : nodes t ≤ start t 64
