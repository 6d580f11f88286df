-- Trees and degree sequences are the same thing: the tree of a degree sequence, and both ways
-- round.
use mathlib.Core.Path.{◌≡◌, refl, sym, ap, ap₂, ◌∙◌, subst}
use mathlib.Core.List.{List, [], ◌∷◌, ◌++◌, cons≢nil, nil≢cons, head-eq_of_cons-eq, tail-eq_of_cons-eq}
use Prim.Native.Nat.{ℕ, zero, suc, ◌+◌, ◌-◌}
use native.Mathlib.Omega.{arith}
use lib.ListN.{length, take, drop, length-append, length-drop, take-append-drop}
use lib.Seq.{take_at, drop_at, length-take-le}
use Rattle.meaning.specs.Trees.{Tree, Trees, node, none, ◌then◌, listed, children, degree, degrees}
use Rattle.theory.proofs.Levels.{degs, degs_queue, degrees-degs}

-- ---- a tree is exactly its list of children

abbrev packed : List Tree → Trees
packed [] = none
packed (t ∷ ts) = t then packed ts

abbrev pub tree : List Tree → Tree
tree ts = node (packed ts)

listed-packed : (ts : List Tree) → listed (packed ts) ≡ ts
listed-packed [] = refl
listed-packed (t ∷ ts) = ap (λ r. t ∷ r) (listed-packed ts)

packed-listed : (f : Trees) → packed (listed f) ≡ f
packed-listed none = refl
packed-listed (t then f) = ap (λ r. t then r) (packed-listed f)

pub tree-children : (t : Tree) → tree (children t) ≡ t
tree-children (node f) = ap node (packed-listed f)

-- ---- a degree sequence that begins with c nodes waiting and ends with none

abbrev pub Done : ℕ → List ℕ → Type 0
Done zero [] = Unit
Done zero (d ∷ ds) = ⊥
Done (suc c) [] = ⊥
Done (suc c) (d ∷ ds) = Done (c + d) ds

pub degs-done : (ds : List ℕ) (ts : List Tree) → degs ts ≡ ds → Done (length ts) ds
degs-done [] [] e = tt
degs-done [] (t ∷ q) e = absurd (cons≢nil (sym (degs_queue t q) ∙ e))
degs-done (d ∷ ds) [] e = absurd (nil≢cons e)
degs-done (d ∷ ds) (t ∷ q) e =
    let e' = sym (degs_queue t q) ∙ e in
    subst (λ n. Done n ds) (length-append q (children t) ∙ ap (λ k. length q + k) (head-eq_of_cons-eq e'))
    (degs-done ds (q ++ children t) (tail-eq_of_cons-eq e'))

-- ---- the trees of a degree sequence, read from its end: each node takes the last d of the trees
-- that were made

-- from the trees r that come after it, a node of degree d and the trees that wait after it
abbrev taking : ℕ → List Tree → List Tree
taking d r = tree (drop (length r - d) r) ∷ take (length r - d) r

abbrev pub build : List ℕ → List Tree
build [] = []
build (d ∷ ds) = taking d (build ds)

taking_back : (t : Tree) (q : List Tree) → taking (degree t) (q ++ children t) ≡ t ∷ q
taking_back t q =
    let m : length (q ++ children t) - length (children t) ≡ length q = omega (arith, length-append q (children t)) in
    ap₂ ◌∷◌ (ap tree (drop_at q (children t) _ (sym m)) ∙ tree-children t) (take_at q (children t) _ (sym m))

pub build-degs : (ds : List ℕ) (ts : List Tree) → degs ts ≡ ds → build ds ≡ ts
build-degs [] [] e = refl
build-degs [] (t ∷ q) e = absurd (cons≢nil (sym (degs_queue t q) ∙ e))
build-degs (d ∷ ds) [] e = absurd (nil≢cons e)
build-degs (d ∷ ds) (t ∷ q) e =
    let e' = sym (degs_queue t q) ∙ e in
    ap₂ taking (sym (head-eq_of_cons-eq e')) (build-degs ds (q ++ children t) (tail-eq_of_cons-eq e')) ∙ taking_back t q

taking-length : (c d : ℕ) (r : List Tree) → length r ≡ c + d → length (taking d r) ≡ suc c
taking-length c d r h = ap suc (omega (arith, length-take-le (length r - d) r (omega arith)))

pub build-length : (c : ℕ) (ds : List ℕ) → Done c ds → length (build ds) ≡ c
build-length zero [] h = refl
build-length zero (d ∷ ds) h = absurd h
build-length (suc c) [] h = absurd h
build-length (suc c) (d ∷ ds) h = taking-length c d (build ds) (build-length (c + d) ds h)

taking-degs : (c d : ℕ) (r : List Tree) → length r ≡ c + d → degs (taking d r) ≡ d ∷ degs r
taking-degs c d r h =
    let m : ℕ = length r - d in
    let k : children (tree (drop m r)) ≡ drop m r = listed-packed (drop m r) in
    degs_queue (tree (drop m r)) (take m r)
    ∙ ap₂ ◌∷◌ (ap length k ∙ omega (arith, length-drop m r)) (ap degs (ap (λ x. take m r ++ x) k ∙ take-append-drop m r))

pub degs-build : (c : ℕ) (ds : List ℕ) → Done c ds → degs (build ds) ≡ ds
degs-build zero [] h = refl
degs-build zero (d ∷ ds) h = absurd h
degs-build (suc c) [] h = absurd h
degs-build (suc c) (d ∷ ds) h =
    taking-degs c d (build ds) (build-length (c + d) ds h) ∙ ap (λ r. d ∷ r) (degs-build (c + d) ds h)

-- ---- one tree

abbrev first : List Tree → Tree
first [] = node none
first (t ∷ ts) = t

pub tree_of : List ℕ → Tree
tree_of ds = first (build ds)

first_alone : (ts : List Tree) → length ts ≡ 1 → first ts ∷ [] ≡ ts
first_alone [] h = absurd (omega arith)
first_alone (t ∷ []) h = refl
first_alone (t ∷ u ∷ us) h = absurd (omega arith)

-- the degrees of a tree are done, beginning with the root waiting
pub degrees-done : (t : Tree) → Done 1 (degrees t)
degrees-done t = degs-done (degrees t) (t ∷ []) (sym (degrees-degs t))

-- every sequence that is done is the degrees of a tree
pub degrees_tree_of : (ds : List ℕ) → Done 1 ds → degrees (tree_of ds) ≡ ds
unfolding tree_of
degrees_tree_of ds h = degrees-degs (tree_of ds) ∙ ap degs (first_alone (build ds) (build-length 1 ds h)) ∙ degs-build 1 ds h

-- and of one only
pub tree_of_degrees : (t : Tree) → tree_of (degrees t) ≡ t
unfolding tree_of
tree_of_degrees t = ap first (build-degs (degrees t) (t ∷ []) (sym (degrees-degs t)))

pub degrees_injective : (t u : Tree) → degrees t ≡ degrees u → t ≡ u
degrees_injective t u e = sym (tree_of_degrees t) ∙ ap tree_of e ∙ tree_of_degrees u
