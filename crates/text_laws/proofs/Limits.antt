-- Levels: a tree has at most m exactly if all its nodes are at depths below m; a limit may be
-- raised; every tree is within some limit; and what the listing of the root says of it.
use mathlib.Core.List.{List, [], ◌∷◌}
use mathlib.Core.Logic.{◌↔◌}
use mathlib.Core.Path.{◌≡◌}
use Prim.Native.Nat.{ℕ, zero, suc, ◌+◌, ◌≤◌}
use native.Mathlib.Omega.{arith}
use lib.ListN.{length}
use Rattle.meaning.specs.Trees.{Tree, Trees, node, none, ◌then◌, nodes}
use Rattle.meaning.specs.Parents.{parents}
use Rattle.meaning.specs.Listing.{listing, deep}
use Rattle.theory.specs.Walks.{root, depth_first, depth_first_of, everything, AllBelow}
use Rattle.theory.proofs.Parents.{parents_are}
use Rattle.theory.proofs.Forms.{length-parents}
use Rattle.theory.proofs.Addresses.{first_node}
use Rattle.theory.proofs.Depths.{all_split, all_join, not-deep, deep_none}
use Rattle.text_laws.specs.Texts.{Within, AllWithin}

-- of a tree whose root is at address a
mutual
  unfolding Within depth_first

  within-below : (t : Tree) (a : List ℕ) (m k : ℕ) → k ≡ m + length a → Within m t → AllBelow k (depth_first t a)
  within-below (node f) a zero k e w = absurd w
  within-below (node f) a (suc m) k e w = (omega arith, withins_below f a 1 m k (omega arith) w)

  withins_below : (f : Trees) (a : List ℕ) (i m k : ℕ) → k ≡ m + suc (length a) → AllWithin m f → AllBelow k (depth_first_of f a i)
  withins_below none a i m k e w = tt
  withins_below (t then f) a i m k e w =
      all_join k (depth_first t (i ∷ a)) (depth_first_of f a (suc i)) (within-below t (i ∷ a) m k e w.0) (withins_below f a (suc i) m k e w.1)

mutual
  unfolding Within depth_first

  below-within : (t : Tree) (a : List ℕ) (m k : ℕ) → k ≡ m + length a → AllBelow k (depth_first t a) → Within m t
  below-within (node f) a zero k e b = omega (arith, b.0)
  below-within (node f) a (suc m) k e b = below_withins f a 1 m k (omega arith) b.1

  below_withins : (f : Trees) (a : List ℕ) (i m k : ℕ) → k ≡ m + suc (length a) → AllBelow k (depth_first_of f a i) → AllWithin m f
  below_withins none a i m k e b = tt
  below_withins (t then f) a i m k e b =
      let c = all_split k (depth_first t (i ∷ a)) (depth_first_of f a (suc i)) b in
      (below-within t (i ∷ a) m k e c.0, below_withins f a (suc i) m k e c.1)

-- the root is at depth 0
pub within_all : (m : ℕ) (t : Tree) → Within m t ↔ AllBelow m (everything (root t))
within_all m t = (λ w. within-below t [] m m (omega arith) w, λ b. below-within t [] m m (omega arith) b)

-- ---- a higher limit

mutual
  unfolding Within

  tree_more : (t : Tree) (m n : ℕ) → m ≤ n → Within m t → Within n t
  tree_more (node f) zero n h w = absurd w
  tree_more (node f) (suc m) zero h w = omega arith
  tree_more (node f) (suc m) (suc n) h w = trees_more f m n (omega arith) w

  trees_more : (f : Trees) (m n : ℕ) → m ≤ n → AllWithin m f → AllWithin n f
  trees_more none m n h w = tt
  trees_more (t then f) m n h w = (tree_more t m n h w.0, trees_more f m n h w.1)

pub within_more : (m n : ℕ) (t : Tree) → m ≤ n → Within m t → Within n t
within_more m n t h w = tree_more t m n h w

-- ---- some limit

mutual
  unfolding Within

  pub some-within : (t : Tree) → (m : ℕ) × Within m t
  some-within (node f) = let r = some_withins f in (suc r.0, r.1)

  some_withins : (f : Trees) → (m : ℕ) × AllWithin m f
  some_withins none = (0, tt)
  some_withins (t then f) =
      let r = some-within t in
      let s = some_withins f in
      (r.0 + s.0, (tree_more t r.0 (r.0 + s.0) (omega arith) r.1, trees_more f s.0 (r.0 + s.0) (omega arith) s.1))

-- the listing of the root has a node at depth 64 exactly if there are more than 64 levels
pub none_deep : (t : Tree) → (deep (listing 65 (parents t) 1 0) ≡ 0) ↔ Within 64 t
none_deep t =
    let root-there : 1 ≤ nodes t = omega (arith, (parents_are t).some, length-parents t) in
    let all = within_all 64 t in
    (λ e. all.1 (rw (first_node t) at (not-deep t 1 (omega arith) root-there e)), λ w. deep_none t 1 (omega arith) root-there (rw (first_node t) (all.0 w)))
