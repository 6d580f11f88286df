-- The brackets of a tree, node by node: those of a node are those of its children between two more,
-- the parent list gives the same brackets, and there are two to a node.
use mathlib.Core.Path.{◌≡◌, refl, sym, ap, ap₂, ◌∙◌}
use mathlib.Core.List.{List, [], ◌∷◌, ◌++◌, map, nil≢cons}
use Prim.Native.Nat.{ℕ, zero, suc, ◌+◌, ◌-◌, ◌*◌, ◌≤◌, ◌<◌}
use native.Mathlib.Omega.{arith}
use lib.ListN.{length, length-append}
use Rattle.meaning.specs.Trees.{Tree, Trees, node, none, ◌then◌, Node, degree_of, sibling_nodes, nodes_under, child_nodes, beside, levels, levels_below, end_to_end, level_order, nodes}
use Rattle.meaning.specs.Strings.{Bit, O, I}
use Rattle.meaning.specs.Parents.{parents}
use Rattle.meaning.specs.Questions.{children_of}
use Rattle.meaning.specs.Listing.{for_each}
use Rattle.meaning.specs.Brackets.{brackets, brackets_of, nested, bracketing}
use Rattle.theory.specs.Rank.{counting}
use Rattle.theory.specs.Walks.{node_at}
use Rattle.theory.proofs.Levels.{level_law}
use Rattle.theory.proofs.Navigate.{children_are}
use Rattle.theory.proofs.Answers.{lo}
use Rattle.theory.proofs.Forms.{length-parents}
use Rattle.theory.proofs.Addresses.{first_node, lo-step, children-nodes, is_child_lem, number_unique, number_of, parent_number}
use Rattle.theory.proofs.OwnAnswers.{child_number}

-- ---- lists put end to end

for_each_map : {A B C : Type 0} (g : B → List C) (h : A → B) (xs : List A) → for_each g (map h xs) ≡ for_each (λ x. g (h x)) xs
for_each_map g h [] = refl
for_each_map g h (x ∷ xs) = ap (λ r. g (h x) ++ r) (for_each_map g h xs)

for_each_same : {B : Type 0} (g h : ℕ → List B) (i n : ℕ) → ((j : ℕ) → j < n → g (i + j) ≡ h (i + j)) → for_each g (counting i n) ≡ for_each h (counting i n)
for_each_same g h i zero e = refl
for_each_same g h i (suc n) e =
    let z : i + 0 ≡ i = omega arith in
    ap₂ ◌++◌ (ap g (sym z) ∙ e 0 (omega arith) ∙ ap h z)
    (for_each_same g h (suc i) n
    (λ j l. let s : suc i + j ≡ i + suc j = omega arith in ap g s ∙ e (suc j) (omega arith) ∙ ap h (sym s)))

-- ---- a node's brackets

brackets_siblings : (f : Trees) (a : List ℕ) (i : ℕ) → brackets_of f ≡ for_each (λ v. brackets v.below) (sibling_nodes f a i)
unfolding brackets
brackets_siblings none a i = refl
brackets_siblings (t then f) a i = ap (λ r. brackets t ++ r) (brackets_siblings f a (suc i))

brackets_law : (v : Node) → brackets v.below ≡ I ∷ (for_each (λ u. brackets u.below) (child_nodes v) ++ O ∷ [])
unfolding brackets
brackets_law v = go v.below v.address
  where
    go : (t : Tree) (a : List ℕ) → brackets t ≡ I ∷ (for_each (λ u. brackets u.below) (nodes_under t a) ++ O ∷ [])
    go (node f) a = ap (λ r. I ∷ (r ++ O ∷ [])) (brackets_siblings f a 1)

-- an opening bracket, the brackets of each child that the parent list gives, and a closing one
pub brackets_node : (t : Tree) (x : ℕ) → 1 ≤ x → x ≤ nodes t
    → brackets (node_at t x).below ≡ I ∷ (for_each (λ c. brackets (node_at t c).below) (children_of (parents t) x) ++ O ∷ [])
brackets_node t x g h =
    brackets_law (node_at t x)
    ∙ ap (λ r. I ∷ (r ++ O ∷ []))
    (ap (for_each (λ u. brackets u.below)) (sym (children-nodes t x g h))
    ∙ for_each_map (λ u. brackets u.below) (node_at t) (children_of (parents t) x))

-- ---- the brackets of the parent list

module _ (t : Tree) where
  some_node : 1 ≤ nodes t
  unfolding nodes
  some_node = omega (arith, ap length (level_law t))

  -- the children of a node come after it
  child_after : (x k : ℕ) → 1 ≤ x → x ≤ nodes t → 1 ≤ k → k ≤ degree_of (node_at t x) → (x < lo t x + k) × (lo t x + k ≤ nodes t)
  child_after x k g h f l = let n = child_number t x k g h f l in go (lo t x + k) n.from n.to n.here
    where
      go : (y : ℕ) → 1 ≤ y → y ≤ nodes t → (node_at t y).address ≡ k ∷ (node_at t x).address → (x < y) × (y ≤ nodes t)
      go zero from to here = absurd (omega arith)
      go (suc zero) from to here = absurd (nil≢cons (sym (ap (λ v. v.address) (first_node t)) ∙ here))
      go (suc (suc j)) from to here =
          let two : 2 ≤ suc (suc j) = omega arith in
          let same = number_unique t (parent_number t (suc (suc j)) two to k _ here) (number_of t x g h) in
          (omega (arith, same, (is_child_lem t (suc (suc j)) two to).before), to)

  -- f levels from node x on are enough if no number is as high as f + x
  nested_node : (f x : ℕ) → 1 ≤ x → x ≤ nodes t → nodes t < f + x → nested f (parents t) x ≡ brackets (node_at t x).below
  unfolding nested
  nested_node zero x g h l = absurd (omega arith)
  nested_node (suc f) x g h l =
      let old : ℕ → List Bit = λ c. nested f (parents t) c in
      let new : ℕ → List Bit = λ c. brackets (node_at t c).below in
      ap (λ r. I ∷ (r ++ O ∷ []))
      (ap (for_each old) (children_are t x)
      ∙ for_each_same old new (1 + lo t x) (lo t (suc x) - lo t x)
      (λ j k. let c = child_after x (suc j) g h (omega arith) (omega (arith, lo-step t x g h)) in
      nested_node f (1 + lo t x + j) (omega arith) (omega (arith, c.1)) (omega (arith, c.0)))
      ∙ ap (for_each new) (sym (children_are t x)))
      ∙ sym (brackets_node t x g h)

-- the parent list of a tree gives the tree's brackets
pub nested-brackets : (t : Tree) → bracketing (parents t) ≡ brackets t
unfolding bracketing
nested-brackets t =
    nested_node t (length (parents t)) 1 (omega arith) (some_node t) (omega (arith, length-parents t))
    ∙ ap (λ v. brackets v.below) (first_node t)

-- ---- how many there are

flat_beside : {A : Type 0} (xs ys : List (List A)) → length (end_to_end (beside xs ys)) ≡ length (end_to_end xs) + length (end_to_end ys)
flat_beside [] ys = omega arith
flat_beside (x ∷ xs) [] = omega arith
flat_beside (x ∷ xs) (y ∷ ys) =
    simp length-append (omega (arith, flat_beside xs ys))

mutual
  unfolding brackets levels

  length-levels : (t : Tree) (a : List ℕ) → length (brackets t) ≡ 2 * length (end_to_end (levels t a))
  length-levels (node f) a = omega (arith, length-append (brackets_of f) (O ∷ []), length-below f a 1)

  length-below : (f : Trees) (a : List ℕ) (i : ℕ) → length (brackets_of f) ≡ 2 * length (end_to_end (levels_below f a i))
  length-below none a i = omega arith
  length-below (t then f) a i =
      omega
      (arith, length-append (brackets t) (brackets_of f), length-levels t (i ∷ a), length-below f a (suc i), flat_beside (levels t (i ∷ a)) (levels_below f a (suc i)))

-- two brackets to a node
pub length-brackets : (t : Tree) → length (brackets t) ≡ 2 * nodes t
unfolding nodes level_order
length-brackets t = length-levels t []
