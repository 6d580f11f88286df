-- Level order of a tree's nodes, and of its subtrees.
use mathlib.Core.Path.{◌≡◌, refl, sym, ap, ap₂, ◌∙◌}
use mathlib.Core.List.{List, [], ◌∷◌, ◌++◌, map}
use Prim.Native.Nat.{ℕ, suc}
use Rattle.meaning.specs.Trees.{Tree, Trees, node, none, ◌then◌, listed, children, degree, Node}
use Rattle.meaning.specs.Trees.{degree_of, sibling_nodes, nodes_under, child_nodes, beside, levels, levels_below, end_to_end, level_order, degrees}
use Rattle.theory.specs.Walks.{root}
use Rattle.theory.proofs.Order.{beside-nil, levels_all, order, order_queue, order_law}

-- ---- nodes

pub levels_of : Node → List (List Node)
levels_of v = levels v.below v.address

below_siblings : (f : Trees) (a : List ℕ) (i : ℕ) → levels_below f a i ≡ levels_all levels_of (sibling_nodes f a i)
unfolding levels levels_of
below_siblings none a i = refl
below_siblings (t then f) a i = ap (beside (levels t (i ∷ a))) (below_siblings f a (suc i))

node_law : (v : Node) → levels_of v ≡ (v ∷ []) ∷ levels_all levels_of (child_nodes v)
unfolding levels levels_of
node_law v = go v.below v.address
  where
    go : (t : Tree) (a : List ℕ) → levels t a ≡ (record { address = a; below = t } ∷ []) ∷ levels_all levels_of (nodes_under t a)
    go (node f) a = ap (λ r. (record { address = a; below = node f } ∷ []) ∷ r) (below_siblings f a 1)

order-nodes : (t : Tree) → level_order t ≡ order levels_of (root t ∷ [])
unfolding level_order levels_of
order-nodes t = ap end_to_end (sym (beside-nil (levels t [])))

-- after the root come the children of node 1, then those of node 2, and so on
pub level_law : (t : Tree) → level_order t ≡ root t ∷ end_to_end (map child_nodes (level_order t))
level_law t =
    order-nodes t ∙ order_law child_nodes levels_of node_law (root t) ∙ ap (λ r. root t ∷ end_to_end (map child_nodes r)) (sym (order-nodes t))

-- ---- subtrees: the same without addresses

mutual
  pub tree_levels : Tree → List (List Tree)
  tree_levels (node f) = (node f ∷ []) ∷ trees_levels f

  pub trees_levels : Trees → List (List Tree)
  trees_levels none = []
  trees_levels (t then f) = beside (tree_levels t) (trees_levels f)

below-listed : (f : Trees) → trees_levels f ≡ levels_all tree_levels (listed f)
unfolding tree_levels
below-listed none = refl
below-listed (t then f) = ap (beside (tree_levels t)) (below-listed f)

tree_law : (t : Tree) → tree_levels t ≡ (t ∷ []) ∷ levels_all tree_levels (children t)
unfolding tree_levels
tree_law (node f) = ap (λ r. (node f ∷ []) ∷ r) (below-listed f)

-- ---- the subtrees of the nodes

map-append : {A B : Type 0} (f : A → B) (xs ys : List A) → map f (xs ++ ys) ≡ map f xs ++ map f ys
map-append f [] ys = refl
map-append f (x ∷ xs) ys = ap (λ r. f x ∷ r) (map-append f xs ys)

map-beside : {A B : Type 0} (f : A → B) (xs ys : List (List A)) → map (map f) (beside xs ys) ≡ beside (map (map f) xs) (map (map f) ys)
map-beside f [] ys = refl
map-beside f (x ∷ xs) [] = refl
map-beside f (x ∷ xs) (y ∷ ys) = ap₂ ◌∷◌ (map-append f x y) (map-beside f xs ys)

map_flat : {A B : Type 0} (f : A → B) (xs : List (List A)) → map f (end_to_end xs) ≡ end_to_end (map (map f) xs)
map_flat f [] = refl
map_flat f (x ∷ xs) = map-append f x (end_to_end xs) ∙ ap (λ r. map f x ++ r) (map_flat f xs)

abbrev subtree : Node → Tree
subtree v = v.below

mutual
  unfolding levels tree_levels

  levels_trees : (t : Tree) (a : List ℕ) → map (map subtree) (levels t a) ≡ tree_levels t
  levels_trees (node f) a = ap (λ r. (node f ∷ []) ∷ r) (below_trees f a 1)

  below_trees : (f : Trees) (a : List ℕ) (i : ℕ) → map (map subtree) (levels_below f a i) ≡ trees_levels f
  below_trees none a i = refl
  below_trees (t then f) a i =
      map-beside subtree (levels t (i ∷ a)) (levels_below f a (suc i)) ∙ ap₂ beside (levels_trees t (i ∷ a)) (below_trees f a (suc i))

-- ---- degrees of a list of trees

abbrev pub degs : List Tree → List ℕ
degs ts = map degree (order tree_levels ts)

pub degs_queue : (t : Tree) (q : List Tree) → degs (t ∷ q) ≡ degree t ∷ degs (q ++ children t)
degs_queue t q = ap (map degree) (order_queue children tree_levels tree_law t q)

map-map : (vs : List Node) → map degree_of vs ≡ map degree (map subtree vs)
map-map [] = refl
map-map (v ∷ vs) = ap (λ r. degree_of v ∷ r) (map-map vs)

pub degrees-degs : (t : Tree) → degrees t ≡ degs (t ∷ [])
unfolding degrees level_order
degrees-degs t =
    map-map (level_order t)
    ∙ ap (map degree) (map_flat subtree (levels t []) ∙ ap end_to_end (levels_trees t [] ∙ sym (beside-nil (tree_levels t))))
