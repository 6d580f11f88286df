-- Parent lists (document 01, "Parent list").
use Rattle.std.specs.Prelude.{◌≡◌, cond, ◌&&◌, List, [], ◌∷◌, ◌++◌, ℕ, zero, suc, ◌≤◌, ◌<◌, leb, eqb, length, get_or, replicate}
use Rattle.meaning.specs.Trees.{Tree, degrees}

-- ---- The parent list of a tree: 0 for the root; then node x, from 1 on, is the parent of as many
-- nodes as it has children.

abbrev pub each : ℕ → List ℕ → List ℕ
each x [] = []
each x (d ∷ ds) = replicate d x ++ each (suc x) ds

unfoldable pub parents : Tree → List ℕ
unfolding degrees
parents t = 0 ∷ each 1 (degrees t)

-- ---- Which lists are parent lists.

-- entry number i of a list, from 1; 0 where there is none
abbrev pub entry : List ℕ → ℕ → ℕ
entry ps zero = 0
entry ps (suc i) = get_or ps i 0

-- entry i keeps the rule: the first is 0, and each later entry i is between 1 and i - 1 and not
-- below the entry before it
abbrev pub Rule : List ℕ → ℕ → Type 0
Rule ps zero = Unit
Rule ps (suc zero) = entry ps 1 ≡ 0
Rule ps (suc (suc k)) = (1 ≤ entry ps (suc (suc k))) × (entry ps (suc (suc k)) ≤ suc k) × (entry ps (suc k) ≤ entry ps (suc (suc k)))

pub record IsParents (ps : List ℕ) : Type 0 where
  pub some : 1 ≤ length ps
  pub rule : (i : ℕ) → 1 ≤ i → i ≤ length ps → Rule ps i

-- r is the lowest entry that breaks the rule
pub record Lowest (ps : List ℕ) (r : ℕ) : Type 0 where
  pub from : 1 ≤ r
  pub to : r ≤ length ps
  pub before : (i : ℕ) → 1 ≤ i → i < r → Rule ps i
  pub here : Rule ps r → ⊥

-- ---- The same from left to right.

-- the first entry that breaks the rule, after i entries of which the last was low (1 after the
-- first): 0 if there is none
unfoldable pub bad_from : List ℕ → ℕ → ℕ → ℕ
bad_from [] i low = 0
bad_from (p ∷ ps) i low = let rest = bad_from ps (suc i) p in cond (leb low p && leb p i) rest (suc i)

unfoldable pub bad_entry : List ℕ → ℕ
unfolding bad_from
bad_entry [] = 0
bad_entry (p ∷ ps) = let rest = bad_from ps 1 1 in cond (eqb p 0) rest 1
