-- What a tree itself answers, by the addresses of its nodes, and its depth-first order: against
-- these the answers of `meaning` are held.
use Rattle.std.specs.Prelude.{◌≡◌, cond, List, [], ◌∷◌, ◌++◌, ◌⊎◌, ℕ, zero, suc, ◌+◌, ◌-◌, ◌≤◌, ◌<◌, ltb, ℤ, pos, negsuc, get_or}
use Rattle.meaning.specs.Trees as Tree
use Rattle.meaning.specs.Trees.{Tree, Trees, node, none, ◌then◌, Node, depth, level_order, nodes}
use Rattle.meaning.specs.Questions.{Ask, parent, first_child, last_child, next_sibling, previous_sibling, degree, rank, child, leaf, sibling, is_none}

abbrev pub root : Tree → Node
root t = record { address = []; below = t }

-- ---- Numbers and addresses.

-- node number x, from 1
abbrev pub node_at : Tree → ℕ → Node
node_at t zero = root t
node_at t (suc i) = get_or (level_order t) i (root t)

-- x is the number of the node at address a
pub record Number (t : Tree) (a : List ℕ) (x : ℕ) : Type 0 where
  pub from : 1 ≤ x
  pub to : x ≤ nodes t
  pub here : (node_at t x).address ≡ a

-- r is the number of the node at a; 0 if no node is there
abbrev pub At : Tree → List ℕ → ℕ → Type 0
At t a r = Number t a r ⊎ ((r ≡ 0) × ((x : ℕ) → Number t a x → ⊥))

-- ---- The ten kinds: r is what tree t gives to the question about the node at address a, with b
-- the tree below it and argument z.

abbrev pub ChildAt : Tree → List ℕ → ℤ → ℕ → Type 0
ChildAt t a (pos k) r = At t (k ∷ a) r
ChildAt t a (negsuc k) r = r ≡ 0

-- the root is an only child
abbrev pub SiblingAt : Tree → List ℕ → ℤ → ℕ → Type 0
SiblingAt t [] (pos zero) r = r ≡ 1
SiblingAt t [] (pos (suc k)) r = r ≡ 0
SiblingAt t [] (negsuc k) r = r ≡ 0
SiblingAt t (i ∷ p) (pos k) r = At t ((i + k) ∷ p) r
SiblingAt t (i ∷ p) (negsuc k) r = At t ((i - suc k) ∷ p) r

abbrev pub Above : Tree → List ℕ → ℕ → Type 0
Above t [] r = r ≡ 0
Above t (i ∷ p) r = Number t p r

-- which child of its parent a node is; the root has no rank
abbrev pub Ranks : List ℕ → ℕ → Type 0
Ranks [] r = r ≡ 0
Ranks (i ∷ p) r = r ≡ i

abbrev pub Gives : Tree → Ask → List ℕ → Tree → ℤ → ℕ → Type 0
Gives t parent a b z r = Above t a r
Gives t first_child a b z r = At t (1 ∷ a) r
Gives t last_child a b z r = At t (Tree.degree b ∷ a) r
Gives t next_sibling a b z r = SiblingAt t a (pos 1) r
Gives t previous_sibling a b z r = SiblingAt t a (negsuc 0) r
Gives t degree a b z r = r ≡ Tree.degree b
Gives t rank a b z r = Ranks a r
Gives t child a b z r = ChildAt t a z r
Gives t leaf a b z r = r ≡ is_none (Tree.degree b)
Gives t sibling a b z r = SiblingAt t a z r

-- ---- Depth-first order: parents first, children in order.

unfoldable mutual
  pub depth_first : Tree → List ℕ → List Node
  depth_first (node f) a = record { address = a; below = node f } ∷ depth_first_of f a 1

  pub depth_first_of : Trees → List ℕ → ℕ → List Node
  depth_first_of none a i = []
  depth_first_of (t then f) a i = depth_first t (i ∷ a) ++ depth_first_of f a (suc i)

-- everything below a node, itself first
abbrev pub everything : Node → List Node
everything v = depth_first v.below v.address

-- of these nodes, those at a depth below k
abbrev pub shallow : ℕ → List Node → List Node
shallow k [] = []
shallow k (v ∷ vs) = let rest = shallow k vs in cond (ltb (depth v) k) (v ∷ rest) rest

-- the list ns holds number and depth, counted from d, of each of these nodes
abbrev pub Lists : Tree → ℕ → List Node → List ℕ → Type 0
Lists t d [] [] = Unit
Lists t d [] (n ∷ ns) = ⊥
Lists t d (v ∷ vs) [] = ⊥
Lists t d (v ∷ vs) (x ∷ []) = ⊥
Lists t d (v ∷ vs) (x ∷ e ∷ ns) = Number t v.address x × (e + d ≡ depth v) × Lists t d vs ns

abbrev pub AllBelow : ℕ → List Node → Type 0
AllBelow k [] = Unit
AllBelow k (v ∷ vs) = (depth v < k) × AllBelow k vs

-- r is the number of the first of these nodes at depth k
abbrev pub FirstAt : Tree → ℕ → List Node → ℕ → Type 0
FirstAt t k [] r = ⊥
FirstAt t k (v ∷ vs) r = ((depth v ≡ k) × Number t v.address r) ⊎ (((depth v ≡ k) → ⊥) × FirstAt t k vs r)
