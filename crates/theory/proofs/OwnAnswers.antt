-- The answers read off the parent list are the tree's own: the ten kinds of question, by addresses.
use mathlib.Core.Path.{◌≡◌, refl, sym, ap, ◌∙◌, subst}
use mathlib.Core.List.{List, [], ◌∷◌, nil≢cons, head-eq_of_cons-eq}
use mathlib.Core.Logic.{inl, inr}
use Prim.Native.Nat.{ℕ, zero, suc, ◌+◌, ◌-◌, ◌≤◌}
use native.Mathlib.Omega.{arith}
use native.Mathlib.Decide.{dec_lt}
use lib.IntN.{ℤ, pos, negsuc}
use lib.ListN.{length}
use Rattle.meaning.specs.Trees.{Tree, degree_of, nodes, degrees}
use Rattle.meaning.specs.Strings.{unary, lbs, ones}
use Rattle.meaning.specs.Parents.{parents, entry}
use Rattle.meaning.specs.Questions.{Ask, parent, first_child, last_child, next_sibling, previous_sibling, degree, rank, child, leaf, sibling}
use Rattle.meaning.specs.Questions.{is_none, children_of, place_of, rank_of, child_at, sibling_at, answer}
use Rattle.theory.specs.Walks.{root, node_at, Number, At, ChildAt, SiblingAt, Above, Ranks, Gives}
use Rattle.theory.proofs.Navigate.{ones_before-zero, ones_before-all}
use Rattle.theory.proofs.Answers.{root_rank, other_rank, lo, child_there, child_none, right_there, right_none, left_none}
use Rattle.theory.proofs.Scan.{nodes-ones}
use Rattle.theory.proofs.Addresses.{child_address, first_node, lo-step, degree-at, child_node, is_child_lem, address_step, number_unique, number_of, parent_number}

module _ (t : Tree) where
  -- ---- children

  -- child number k of node x, if there is one, is among its children
  child_only : (x k y : ℕ) → 1 ≤ x → x ≤ nodes t → Number t (k ∷ (node_at t x).address) y → (1 ≤ k) × (k ≤ degree_of (node_at t x))
  child_only x k zero g h m = absurd (omega (arith, m.from))
  child_only x k (suc zero) g h m = absurd (nil≢cons (sym (ap (λ v. v.address) (first_node t)) ∙ m.here))
  child_only x k (suc (suc j)) g h m =
      let y : ℕ = suc (suc j) in
      let c = is_child_lem t y (omega arith) m.to in
      let e = head-eq_of_cons-eq (sym c.address ∙ m.here) in
      let same = number_unique t (parent_number t y (omega arith) m.to k _ m.here) (number_of t x g h) in
      (omega (arith, c.some), omega (arith, c.room, ap (λ p. degree_of (node_at t p)) same))

  pub child_number : (x k : ℕ) → 1 ≤ x → x ≤ nodes t → 1 ≤ k → k ≤ degree_of (node_at t x) → Number t (k ∷ (node_at t x).address) (lo t x + k)
  child_number x zero g h f l = absurd (omega arith)
  child_number x (suc j) g h f l = record {
    from = omega arith;
    to = omega (arith, lo-step t x g h, ones_before-all (lbs t) (suc x), nodes-ones t);
    here = ap (λ y. (node_at t y).address) (let e : lo t x + suc j ≡ suc (lo t x) + j = omega arith in e)
        ∙ ap (λ v. v.address) (child_node t x j g h l) ∙ child_address (node_at t x) j (root t) l;
  }

  pub child_at_lem : (x k : ℕ) → 1 ≤ x → x ≤ nodes t → At t (k ∷ (node_at t x).address) (entry (children_of (parents t) x) k)
  unfolding child_at
  child_at_lem x zero g h = inr (refl, λ y m. omega (arith, (child_only x 0 y g h m).0))
  child_at_lem x (suc j) g h =
      let s = lo-step t x g h in
      elim (dec_lt j (degree_of (node_at t x))) [
        | yes l ↦ inl (rw (child_there t x (suc j) (omega arith) (omega arith)) (child_number x (suc j) g h (omega arith) l))
        | no n ↦ inr (child_none t x (suc j) (omega arith), λ y m. n (child_only x (suc j) y g h m).1)
      ]

  -- ---- the root, which has no siblings

  first_parent : entry (parents t) 1 ≡ 0
  unfolding parents
  first_parent = refl

  lo-one : lo t 1 ≡ 1
  unfolding lbs
  lo-one = ap suc (ones_before-zero (unary (degrees t)))

  some-ones : 1 ≤ ones (lbs t)
  unfolding lbs
  some-ones = omega arith

  pub root_sibling : (z : ℤ) → SiblingAt t [] z (sibling_at (parents t) 1 z)
  root_sibling (pos zero) = right_there t 1 (omega arith) some-ones 0 (omega (arith, ap (λ p. lo t (suc p)) first_parent, lo-one))
  root_sibling (pos (suc k)) = right_none t 1 (omega arith) some-ones (suc k) (omega (arith, ap (λ p. lo t (suc p)) first_parent, lo-one))
  root_sibling (negsuc k) = left_none t 1 (omega arith) some-ones k (omega arith)

  -- ---- node x among its siblings

  -- a node is the root, or child number `place_of` of the node at its entry
  by_address : (P : List ℕ → ℕ → Type 0) (x : ℕ) → 1 ≤ x → x ≤ nodes t
      → P [] 1
      → (2 ≤ x → P (place_of (parents t) x ∷ (node_at t (entry (parents t) x)).address) x)
      → P (node_at t x).address x
  by_address P zero g h r c = absurd (omega arith)
  by_address P (suc zero) g h r c = subst (λ v. P v.address 1) (sym (first_node t)) r
  by_address P (suc (suc k)) g h r c = subst (λ a. P a (suc (suc k))) (sym (address_step t (suc (suc k)) (omega arith) h)) (c (omega arith))

  module _ (x : ℕ) (g : 1 ≤ x) (h : x ≤ nodes t) where
    own_parent : Above t (node_at t x).address (entry (parents t) x)
    own_parent = by_address (λ a y. Above t a (entry (parents t) y)) x g h first_parent (λ m. parent_number t x m h _ _ (address_step t x m h))

    own_rank : Ranks (node_at t x).address (rank_of (parents t) x)
    own_rank = by_address (λ a y. Ranks a (rank_of (parents t) y)) x g h (root_rank (parents t)) (λ m. other_rank (parents t) x m)

    under_parent : 2 ≤ x → (z : ℤ) → SiblingAt t (place_of (parents t) x ∷ (node_at t (entry (parents t) x)).address) z (sibling_at (parents t) x z)
    unfolding sibling_at
    under_parent m (pos k) = let c = is_child_lem t x m h in child_at_lem (entry (parents t) x) (place_of (parents t) x + k) c.from (omega (arith, c.before))
    under_parent m (negsuc k) =
        let c = is_child_lem t x m h in child_at_lem (entry (parents t) x) (place_of (parents t) x - suc k) c.from (omega (arith, c.before))

    own_sibling : (z : ℤ) → SiblingAt t (node_at t x).address z (sibling_at (parents t) x z)
    own_sibling z = by_address (λ a y. SiblingAt t a z (sibling_at (parents t) y z)) x g h (root_sibling z) (λ m. under_parent m z)

    own_child : (z : ℤ) → ChildAt t (node_at t x).address z (child_at (parents t) x z)
    unfolding child_at
    own_child (pos k) = child_at_lem x k g h
    own_child (negsuc k) = refl

    own-last : At t (degree_of (node_at t x) ∷ (node_at t x).address) (entry (children_of (parents t) x) (length (children_of (parents t) x)))
    own-last =
        let n : ℕ = length (children_of (parents t) x) in
        subst (λ d. At t (d ∷ (node_at t x).address) (entry (children_of (parents t) x) n)) (sym (degree-at t x g h)) (child_at_lem x n g h)

-- ---- the ten kinds

pub own_answer : (t : Tree) (kind : Ask) (x : ℕ) → 1 ≤ x → x ≤ nodes t
    → (z : ℤ) → Gives t kind (node_at t x).address (node_at t x).below z (answer (parents t) kind x z)
unfolding answer
own_answer t parent x g h z = own_parent t x g h
own_answer t first_child x g h z = child_at_lem t x 1 g h
own_answer t last_child x g h z = own-last t x g h
own_answer t next_sibling x g h z = own_sibling t x g h (pos 1)
own_answer t previous_sibling x g h z = own_sibling t x g h (negsuc 0)
own_answer t degree x g h z = sym (degree-at t x g h)
own_answer t rank x g h z = own_rank t x g h
own_answer t child x g h z = own_child t x g h z
own_answer t leaf x g h z = ap is_none (sym (degree-at t x g h))
own_answer t sibling x g h z = own_sibling t x g h z
