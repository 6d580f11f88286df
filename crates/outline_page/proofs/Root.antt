-- The listing of an image's root, if no node is at depth 64, has two numbers for each node of the
-- tree.
use Rattle.std.specs.Prelude.{Ok}
use mathlib.Core.Path.{◌≡◌, refl, sym, ap, ap₂, ◌∙◌, subst}
use mathlib.Core.List.{List, [], ◌∷◌}
use Prim.Native.Nat.{ℕ, suc, ◌+◌, ◌*◌, ◌≤◌}
use native.Mathlib.Omega.{arith}
use lib.ListN.{length, length-append}
use Rattle.meaning.specs.Trees.{Tree, Trees, node, none, ◌then◌, Node, depth, beside, levels, levels_below, end_to_end, level_order, nodes}
use Rattle.meaning.specs.Parents.{parents}
use Rattle.meaning.specs.Image.{parents_in}
use Rattle.meaning.specs.Listing.{listing, deep}
use Rattle.theory.specs.Walks.{node_at, depth_first, depth_first_of, everything, Lists, AllBelow}
use Rattle.theory.proofs.Forms.{length-parents}
use Rattle.theory.proofs.TreeImages.{is_image_lem, parents_in_lem}
use Rattle.theory.proofs.Addresses.{first_node}
use Rattle.theorems.proofs.Promises.{own_listing}
use Rattle.image_layout.specs.declared.Layout.{Layout}
use Rattle.image_found.specs.Checked.{checked}
use Rattle.image_found.proofs.Finding.{sound_known}
use Rattle.list_measure.proofs.Numbers.{parents-count}
use Rattle.image_promises.proofs.Promises.{lists_length}
use Rattle.outline_heading.specs.Lines.{Pairs}

-- ---- depth-first order has as many nodes as level order

beside-length : (xs ys : List (List Node)) → length (end_to_end (beside xs ys)) ≡ length (end_to_end xs) + length (end_to_end ys)
beside-length [] ys = omega arith
beside-length (x ∷ xs) [] = omega arith
beside-length (x ∷ xs) (y ∷ ys) = simp length-append (omega (arith, beside-length xs ys))

mutual
  unfolding depth_first levels

  tree-count : (t : Tree) (a : List ℕ) → length (end_to_end (levels t a)) ≡ length (depth_first t a)
  tree-count (node f) a = ap suc (trees_count f a 1)

  trees_count : (f : Trees) (a : List ℕ) (i : ℕ) → length (end_to_end (levels_below f a i)) ≡ length (depth_first_of f a i)
  trees_count none a i = refl
  trees_count (t then f) a i =
      beside-length (levels t (i ∷ a)) (levels_below f a (suc i))
      ∙ ap₂ ◌+◌ (tree-count t (i ∷ a)) (trees_count f a (suc i))
      ∙ sym (length-append (depth_first t (i ∷ a)) (depth_first_of f a (suc i)))

pub every_node : (t : Tree) → length (everything (node_at t 1)) ≡ nodes t
unfolding nodes level_order
every_node t = ap (λ v. length (everything v)) (first_node t) ∙ sym (tree-count t [])

-- ---- what is listed

lists-pairs : (t : Tree) (d : ℕ) (vs : List Node) (ns : List ℕ) → Lists t d vs ns → AllBelow (64 + d) vs → Pairs (nodes t) ns
lists-pairs t d [] [] l b = tt
lists-pairs t d [] (n ∷ ns) l b = absurd l
lists-pairs t d (v ∷ vs) [] l b = absurd l
lists-pairs t d (v ∷ vs) (x ∷ []) l b = absurd l
lists-pairs t d (v ∷ vs) (x ∷ e ∷ ns) l b = (l.0.from, l.0.to, omega (arith, l.1, b.0), lists-pairs t d vs ns l.2 b.1)

pub record Whole (n : ℕ) (pairs : List ℕ) : Type 0 where
  pub size : length pairs ≡ 2 * n
  pub nodes : Pairs n pairs

tree-whole : (t : Tree) → 1 ≤ nodes t → deep (listing 65 (parents t) 1 0) ≡ 0 → Whole (nodes t) (listing 65 (parents t) 1 0)
tree-whole t some e =
    let v = node_at t 1 in
    let pairs = listing 65 (parents t) 1 0 in
    let own = own_listing t 1 (omega arith) some in
    let lists = own.1 e in record {
      size = lists_length t (depth v) (everything v) pairs lists ∙ ap (λ k. 2 * k) (every_node t);
      nodes = lists-pairs t (depth v) (everything v) pairs lists (own.0.0 e);
    }

pub root-whole : (bytes : List ℕ) (i : Layout) → checked bytes ≡ Ok i → 1 ≤ i.nodes
    → deep (listing 65 (parents_in bytes) 1 0) ≡ 0 → Whole i.nodes (listing 65 (parents_in bytes) 1 0)
root-whole bytes i found some e =
    let r = (is_image_lem bytes).0 (sound_known bytes i found).image in
    let t = r.0.tree in
    let p : parents_in bytes ≡ parents t = ap parents_in (sym r.2) ∙ parents_in_lem r.0 r.1 in
    let n : nodes t ≡ i.nodes = sym (length-parents t) ∙ ap length (sym p) ∙ parents-count bytes i found in
    subst (λ ps. Whole i.nodes (listing 65 ps 1 0)) (sym p)
    (subst (λ k. Whole k (listing 65 (parents t) 1 0)) n (tree-whole t (omega arith) (ap (λ ps. deep (listing 65 ps 1 0)) (sym p) ∙ e)))
