-- Every answer that is read off the parent list, from the strings: `lo` and `hi` are the ones
-- before two zeros that follow each other.
use mathlib.Core.Path.{◌≡◌, refl, sym, ap, ap₂, ◌∙◌}
use mathlib.Core.Bool.{cond}
use mathlib.Core.List.{List}
use mathlib.Core.Logic.{◌↔◌}
use Prim.Native.Nat.{ℕ, zero, suc, ◌+◌, ◌-◌, ◌≤◌, ◌<◌}
use native.Mathlib.Omega.{arith}
use native.Mathlib.Decide.{dec_lt}
use borrow.Author.Tests.{ne_eqb}
use lib.IntN.{pos, negsuc}
use lib.ListN.{length, get_or}
use Rattle.meaning.specs.Trees.{Tree}
use Rattle.meaning.specs.Strings.{O, I, lbs, ones, R1, R0}
use Rattle.meaning.specs.Parents.{parents, entry}
use Rattle.theory.specs.Rank.{ones_before, counting}
use Rattle.meaning.specs.Questions.{children_of, place_of, rank_of, sibling_at, child_at}
use Rattle.theory.proofs.Navigate.{children_are, is_placed, Placed, ones_before_mono, leaf_mark}
use Rattle.theory.proofs.Runs.{R0-bits}
use Rattle.theory.proofs.Odd.{tree-counts}

-- the root has no rank, and every other node's is its place
pub root_rank : (ps : List ℕ) → rank_of ps 1 ≡ 0
unfolding rank_of
root_rank ps = refl

pub other_rank : (ps : List ℕ) (x : ℕ) → 2 ≤ x → rank_of ps x ≡ place_of ps x
unfolding rank_of
other_rank ps x h = ap (λ b. cond b 0 (place_of ps x)) (ne_eqb x 1 (λ e. omega arith))

counting-length : (i n : ℕ) → length (counting i n) ≡ n
counting-length i zero = refl
counting-length i (suc n) = ap suc (counting-length (suc i) n)

counting-at : (i n k : ℕ) → k < n → get_or (counting i n) k 0 ≡ i + k
counting-at i zero k h = absurd (omega arith)
counting-at i (suc n) zero h = omega arith
counting-at i (suc n) (suc k) h = counting-at (suc i) n k (omega arith) ∙ omega arith

counting-past : (i n k : ℕ) → n ≤ k → get_or (counting i n) k 0 ≡ 0
counting-past i zero k h = refl
counting-past i (suc n) zero h = absurd (omega arith)
counting-past i (suc n) (suc k) h = counting-past (suc i) n k (omega arith)

-- the numbers above lo up to hi: number k of them
upto_at : (lo hi k : ℕ) → 1 ≤ k → lo + k ≤ hi → entry (counting (1 + lo) (hi - lo)) k ≡ lo + k
upto_at lo hi zero g h = absurd (omega arith)
upto_at lo hi (suc k) g h = counting-at (1 + lo) (hi - lo) k (omega arith) ∙ omega arith

upto_past : (lo hi k : ℕ) → hi < lo + k → entry (counting (1 + lo) (hi - lo)) k ≡ 0
upto_past lo hi zero h = refl
upto_past lo hi (suc k) h = counting-past (1 + lo) (hi - lo) k (omega arith)

module _ (t : Tree) where
  -- the ones before zero z
  abbrev pub lo : ℕ → ℕ
  lo z = ones_before (lbs t) z

  pub degree_is : (x : ℕ) → length (children_of (parents t) x) ≡ lo (suc x) - lo x
  degree_is x = ap length (children_are t x) ∙ counting-length (1 + lo x) (lo (suc x) - lo x)

  pub child_there : (x k : ℕ) → 1 ≤ k → lo x + k ≤ lo (suc x) → child_at (parents t) x (pos k) ≡ lo x + k
  unfolding child_at
  child_there x k g h = ap (λ r. entry r k) (children_are t x) ∙ upto_at (lo x) (lo (suc x)) k g h

  pub child_none : (x k : ℕ) → lo (suc x) < lo x + k → child_at (parents t) x (pos k) ≡ 0
  unfolding child_at
  child_none x k h = ap (λ r. entry r k) (children_are t x) ∙ upto_past (lo x) (lo (suc x)) k h

  -- a node x, and what comes before and after it under its parent p
  module _ (x : ℕ) (some : 1 ≤ x) (node : x ≤ ones (lbs t)) where
    abbrev pub p : ℕ
    p = entry (parents t) x

    pub placed : Placed t x p
    placed = go x some node
      where
        go : (x : ℕ) → 1 ≤ x → x ≤ ones (lbs t) → Placed t x (entry (parents t) x)
        go zero g h = absurd (omega arith)
        go (suc i) g h = is_placed t i h

    pub place_is : place_of (parents t) x ≡ x - lo p
    place_is = placed.place

    pub right_there : (a : ℕ) → x + a ≤ lo (suc p) → sibling_at (parents t) x (pos a) ≡ x + a
    unfolding sibling_at
    right_there a h =
        let r = placed in
        ap₂ entry (children_are t p) (ap (λ k. k + a) place_is)
        ∙ upto_at (lo p) (lo (suc p)) (x - lo p + a) (omega (arith, r.above)) (omega (arith, r.above)) ∙ omega (arith, r.above)

    pub right_none : (a : ℕ) → lo (suc p) < x + a → sibling_at (parents t) x (pos a) ≡ 0
    unfolding sibling_at
    right_none a h =
        let r = placed in
        ap₂ entry (children_are t p) (ap (λ k. k + a) place_is)
        ∙ upto_past (lo p) (lo (suc p)) (x - lo p + a) (omega (arith, r.above))

    pub left_there : (a : ℕ) → lo p + suc a < x → sibling_at (parents t) x (negsuc a) ≡ x - suc a
    unfolding sibling_at
    left_there a h =
        let r = placed in
        ap₂ entry (children_are t p) (ap (λ k. k - suc a) place_is)
        ∙ upto_at (lo p) (lo (suc p)) (x - lo p - suc a) (omega arith) (omega (arith, r.upto)) ∙ omega arith

    pub left_none : (a : ℕ) → x ≤ lo p + suc a → sibling_at (parents t) x (negsuc a) ≡ 0
    unfolding sibling_at
    left_none a h =
        ap₂ entry (children_are t p) (ap (λ k. k - suc a) place_is)
        ∙ ap (entry (counting (1 + lo p) (lo (suc p) - lo p))) (let e : x - lo p - suc a ≡ 0 = omega arith in e)

    -- x has a next sibling exactly if R1 has 0 at x
    pub next_is : (get_or (R1 (lbs t)) (x - 1) I ≡ O) ↔ (sibling_at (parents t) x (pos 1) ≡ x + 1)
    next_is = (λ e. right_there 1 (omega (arith, placed.next.0 e)), λ e. placed.next.1 (go e))
      where
        go : sibling_at (parents t) x (pos 1) ≡ x + 1 → x < lo (suc p)
        go e = elim (dec_lt x (lo (suc p))) [ yes h ↦ h | no h ↦ absurd (omega (arith, right_none 1 (omega arith))) ]

  -- node x is a leaf exactly if R0 has 0 at x
  pub leaf_is : (i : ℕ) → suc i ≤ ones (lbs t) → (get_or (R0 (lbs t)) i I ≡ O) ↔ (length (children_of (parents t) (suc i)) ≡ 0)
  leaf_is i h =
      let m = leaf_mark (lbs t) i (omega (arith, tree-counts t)) in
      let e = R0-bits (lbs t) in (
        λ z. omega (arith, m.0 (ap (λ r. get_or r i I) (sym e) ∙ z), degree_is (suc i)),
        λ z. ap (λ r. get_or r i I) e ∙ m.1 (omega (arith, z, degree_is (suc i), ones_before_mono (lbs t) (suc i))),
      )
