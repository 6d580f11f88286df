-- All ten answers from R1 and R0: children and siblings are ranges of numbers between the ones
-- before two zeros that follow each other.
use mathlib.Core.Path.{◌≡◌, refl, sym, ap, ap₂, ◌∙◌, subst}
use mathlib.Core.Bool.{Bool, true, false, cond}
use mathlib.Core.Logic.{◌↔◌}
use Prim.Native.Nat.{ℕ, zero, suc, ◌+◌, ◌-◌, ◌≤◌, ◌<◌}
use native.Mathlib.Decide.{dec_le, dec_lt}
use native.Mathlib.Omega.{arith}
use borrow.Author.Tests.{lt-ltb, le-ltb, le-leb, lt-leb}
use lib.Dec.{ltb, leb}
use lib.IntN.{ℤ, pos, negsuc}
use lib.ListN.{length, get_or}
use Rattle.meaning.specs.Trees.{Tree, nodes}
use Rattle.meaning.specs.Strings.{Bit, O, I, ones, lbs, R1, R0}
use Rattle.meaning.specs.Parents.{parents, entry, Rule}
use Rattle.meaning.specs.Questions.{Ask, parent, first_child, last_child, next_sibling, previous_sibling, degree, rank, child, leaf, sibling, is_none, children_of, child_at, sibling_at, answer}
use Rattle.theory.specs.ByStrings.{where_zero, within, ones_before_by, parent_of, child_by, sibling_by, by_strings}
use Rattle.theory.proofs.Bits.{I≢O}
use Rattle.theory.proofs.Scan.{nodes-ones}
use Rattle.theory.proofs.Parents.{parents_are}
use Rattle.theory.proofs.Forms.{length-parents}
use Rattle.theory.proofs.Odd.{tree-counts}
use Rattle.theory.proofs.Navigate.{ones_before-zero, ones_before_mono, parent_is, ones_before_is}
use Rattle.theory.proofs.Answers.{root_rank, other_rank, lo, degree_is, child_there, child_none, placed, place_is, right_there, right_none, left_there, left_none, leaf_is}

-- ---- a number within bounds

pub within-there : (low high y : ℕ) → low < y → y ≤ high → within low high y ≡ y
unfolding within
within-there low high y g h = ap₂ (λ a b. cond a (cond b y 0) 0) (lt-ltb low y g) (le-leb y high h)

pub within_low : (low high y : ℕ) → y ≤ low → within low high y ≡ 0
unfolding within
within_low low high y h = ap (λ a. cond a (cond (leb y high) y 0) 0) (le-ltb low y h)

pub within_high : (low high y : ℕ) → high < y → within low high y ≡ 0
unfolding within
within_high low high y h = ap (λ b. cond (ltb low y) (cond b y 0) 0) (lt-leb y high h) ∙ both-none (ltb low y)
  where
    both-none : (b : Bool) → ◌≡◌ {A = ℕ} (cond b 0 0) 0
    both-none true = refl
    both-none false = refl

-- a bit decides: what holds exactly where it is 0
by_bit : (b : Bit) (P : Type 0) (r x y : ℕ) → (b ≡ O) ↔ P → (P → r ≡ x) → ((P → ⊥) → r ≡ y) → r ≡ where_zero b x y
by_bit O P r x y e f g = f (e.0 refl)
by_bit I P r x y e f g = g (λ p. I≢O (e.1 p))

module _ (t : Tree) where
  -- what the strings give: the ones before zero z, and the parent of x
  abbrev given : ℕ → ℕ
  given z = ones_before_by (R1 (lbs t)) (R0 (lbs t)) z

  abbrev given_parent : ℕ → ℕ
  given_parent x = parent_of (R1 (lbs t)) (R0 (lbs t)) x

  low_high : (x : ℕ) → lo t x ≤ lo t (suc x)
  low_high x = ones_before_mono (lbs t) x

  low-later : (x k : ℕ) → lo t x ≤ lo t (x + k)
  low-later x zero = ap_le (let e : x ≡ x + 0 = omega arith in e)
    where
      ap_le : {y : ℕ} → x ≡ y → lo t x ≤ lo t y
      ap_le e = omega (arith, ap (lo t) e)
  low-later x (suc k) = omega (arith, low-later x k, low_high (x + k), ap (lo t) (let e : suc (x + k) ≡ x + suc k = omega arith in e))

  -- of two numbers the greater has its children after the smaller's
  low_mono : (x y : ℕ) → x < y → lo t (suc x) ≤ lo t y
  low_mono x y h = omega (arith, low-later (suc x) (y - suc x), ap (lo t) (let e : suc x + (y - suc x) ≡ y = omega arith in e))

  before_is : (z : ℕ) → z ≤ suc (nodes t) → given z ≡ lo t z
  unfolding ones_before_by
  before_is zero h = sym (ones_before-zero (lbs t))
  before_is (suc z) h = sym (ones_before_is t (suc z) (omega arith) (omega (arith, nodes-ones t, tree-counts t)))

  child_within : (x k : ℕ) → child_at (parents t) x (pos k) ≡ within (lo t x) (lo t (suc x)) (lo t x + k)
  unfolding child_at
  child_within x zero = sym (within_low (lo t x) (lo t (suc x)) (lo t x + 0) (omega arith))
  child_within x (suc k) = elim (dec_le (lo t x + suc k) (lo t (suc x))) [
    | yes h ↦ child_there t x (suc k) (omega arith) h ∙ sym (within-there (lo t x) (lo t (suc x)) (lo t x + suc k) (omega arith) h)
    | no h ↦ child_none t x (suc k) (omega arith) ∙ sym (within_high (lo t x) (lo t (suc x)) (lo t x + suc k) (omega arith))
  ]

  module _ (x : ℕ) (g : 1 ≤ x) (h : x ≤ nodes t) where
    there : x ≤ ones (lbs t)
    there = omega (arith, nodes-ones t)

    p : ℕ
    p = entry (parents t) x

    above : lo t p < x
    unfolding p
    above = (placed t x g there).above

    upto : x ≤ lo t (suc p)
    unfolding p
    upto = (placed t x g there).upto

    parent_there : given_parent x ≡ p
    unfolding parent_of p
    parent_there = sym (parent_is t x g there)

    -- the parent comes before x, so its two zeros are in the string
    parent_before : p < x
    unfolding p
    parent_before = go x g ((parents_are t).rule x g (omega (arith, length-parents t)))
      where
        go : (y : ℕ) → 1 ≤ y → Rule (parents t) y → entry (parents t) y < y
        go zero l r = absurd (omega arith)
        go (suc zero) l r = omega (arith, r)
        go (suc (suc k)) l r = omega (arith, r.1)

    before_parent : given (given_parent x) ≡ lo t p
    before_parent = ap given parent_there ∙ before_is p (omega (arith, parent_before))

    after_parent : given (suc (given_parent x)) ≡ lo t (suc p)
    after_parent = ap (λ q. given (suc q)) parent_there ∙ before_is (suc p) (omega (arith, parent_before))

    before-own : given x ≡ lo t x
    before-own = before_is x (omega arith)

    after-own : given (suc x) ≡ lo t (suc x)
    after-own = before_is (suc x) (omega arith)

    right_within : (k : ℕ) → sibling_at (parents t) x (pos k) ≡ within (lo t p) (lo t (suc p)) (x + k)
    unfolding p
    right_within k = elim (dec_le (x + k) (lo t (suc p))) [
      | yes l ↦ right_there t x g there k l ∙ sym (within-there (lo t p) (lo t (suc p)) (x + k) (omega (arith, above)) l)
      | no l ↦ right_none t x g there k (omega arith) ∙ sym (within_high (lo t p) (lo t (suc p)) (x + k) (omega arith))
    ]

    left_within : (k : ℕ) → sibling_at (parents t) x (negsuc k) ≡ within (lo t p) (lo t (suc p)) (x - suc k)
    unfolding p
    left_within k = elim (dec_lt (lo t p + suc k) x) [
      | yes l ↦ left_there t x g there k l ∙ sym (within-there (lo t p) (lo t (suc p)) (x - suc k) (omega arith) (omega (arith, upto)))
      | no l ↦ left_none t x g there k (omega arith) ∙ sym (within_low (lo t p) (lo t (suc p)) (x - suc k) (omega arith))
    ]

    -- the bounds of the children of x, as the strings give them
    bounded : (y : ℕ) → within (lo t x) (lo t (suc x)) y ≡ within (given x) (given (suc x)) y
    bounded y = ap₂ (λ a b. within a b y) (sym before-own) (sym after-own)

    bounded_above : (y : ℕ) → within (lo t p) (lo t (suc p)) y
        ≡ within (given (given_parent x)) (given (suc (given_parent x))) y
    bounded_above y = ap₂ (λ a b. within a b y) (sym before_parent) (sym after_parent)

    child_by_lem : (z : ℤ) → child_at (parents t) x z ≡ child_by (R1 (lbs t)) (R0 (lbs t)) x z
    unfolding child_by child_at
    child_by_lem (pos k) = child_within x k ∙ bounded (lo t x + k) ∙ ap (λ n. within (given x) (given (suc x)) (n + k)) (sym before-own)
    child_by_lem (negsuc k) = refl

    sibling_by_lem : (z : ℤ) → sibling_at (parents t) x z ≡ sibling_by (R1 (lbs t)) (R0 (lbs t)) x z
    unfolding sibling_by
    sibling_by_lem (pos k) = right_within k ∙ bounded_above (x + k)
    sibling_by_lem (negsuc k) = left_within k ∙ bounded_above (x - suc k)

    last_by : entry (children_of (parents t) x) (length (children_of (parents t) x)) ≡ within (lo t x) (lo t (suc x)) (lo t (suc x))
    unfolding child_at
    last_by =
        ap (entry (children_of (parents t) x)) (degree_is t x)
        ∙ child_within x (lo t (suc x) - lo t x)
        ∙ ap (within (lo t x) (lo t (suc x))) (let e : lo t x + (lo t (suc x) - lo t x) ≡ lo t (suc x) = omega (arith, low_high x) in e)

    next_by : sibling_at (parents t) x (pos 1) ≡ where_zero (get_or (R1 (lbs t)) (x - 1) I) (x + 1) 0
    unfolding p
    next_by = by_bit (get_or (R1 (lbs t)) (x - 1) I) (x < lo t (suc p)) _ (x + 1) 0 (placed t x g there).next
        (λ l. right_there t x g there 1 (omega arith)) (λ l. right_none t x g there 1 (omega arith))

    leaf_by : is_none (length (children_of (parents t) x)) ≡ where_zero (get_or (R0 (lbs t)) (x - 1) I) 1 0
    leaf_by = by_bit (get_or (R0 (lbs t)) (x - 1) I) (length (children_of (parents t) x) ≡ 0) _ 1 0 (mark x g there) (λ e. ap is_none e) (some (length (children_of (parents t) x)))
      where
        mark : (y : ℕ) → 1 ≤ y → y ≤ ones (lbs t) → (get_or (R0 (lbs t)) (y - 1) I ≡ O) ↔ (length (children_of (parents t) y) ≡ 0)
        mark zero l m = absurd (omega arith)
        mark (suc i) l m = subst (λ j. (get_or (R0 (lbs t)) j I ≡ O) ↔ (length (children_of (parents t) (suc i)) ≡ 0)) (let e : i ≡ suc i - 1 = omega arith in e) (leaf_is t i m)

        some : (n : ℕ) → (n ≡ 0 → ⊥) → is_none n ≡ 0
        some zero l = absurd (l refl)
        some (suc n) l = refl

  -- two nodes whose children x is among are one
  one_parent : (q r x : ℕ) → lo t q < x → x ≤ lo t (suc q) → lo t r < x → x ≤ lo t (suc r) → q ≡ r
  one_parent q r x a b c d =
      let f : q < r → ⊥ = λ l. omega (arith, low_mono q r l) in
      let k : r < q → ⊥ = λ l. omega (arith, low_mono r q l) in
      omega arith

  -- the node before x has x as its next sibling exactly if it has x's parent
  previous_by : (y : ℕ) → 1 ≤ y → suc y ≤ nodes t → sibling_at (parents t) (suc y) (negsuc 0) ≡ where_zero (get_or (R1 (lbs t)) (y - 1) I) y 0
  unfolding p
  previous_by y g h =
      let x = suc y in
      let m : y ≤ nodes t = omega arith in
      let o : 1 ≤ x = omega arith in
      let q = p y g m in
      let r = p x o h in
      by_bit (get_or (R1 (lbs t)) (y - 1) I) (y < lo t (suc q)) _ y 0 (placed t y g (there y g m)).next
      (λ l. let e : q ≡ r = one_parent q r x (omega (arith, above y g m)) l (above x o h) (upto x o h) in
      left_there t x o (there x o h) 0 (omega (arith, above y g m, ap (lo t) e)) ∙ omega arith)
      (λ l. left_none t x o (there x o h) 0 (later q r (upto y g m) (omega arith) (upto x o h)))
    where
      -- where y is the last child of q, and y + 1 a child of r, those of r come after y
      later : (q r : ℕ) → y ≤ lo t (suc q) → lo t (suc q) ≤ y → suc y ≤ lo t (suc r) → suc y ≤ lo t r + 1
      later q r a b c = elim (dec_lt q r) [
        | yes l ↦ omega (arith, low_mono q r l)
        | no l ↦ absurd (omega (arith, low-later (suc r) (q - r), ap (lo t) (let e : suc r + (q - r) ≡ suc q = omega arith in e)))
      ]

-- what the strings give, for all ten kinds
pub answers_by_strings : (t : Tree) (kind : Ask) (x : ℕ) → 1 ≤ x → x ≤ nodes t → (z : ℤ)
    → answer (parents t) kind x z ≡ by_strings (R1 (lbs t)) (R0 (lbs t)) kind x z
unfolding answer by_strings child_at p
answers_by_strings t parent x g h z = sym (parent_there t x g h)
answers_by_strings t first_child x g h z = child_by_lem t x g h (pos 1)
answers_by_strings t last_child x g h z = last_by t x g h ∙ bounded t x g h (lo t (suc x)) ∙ ap (within (given t x) (given t (suc x))) (sym (after-own t x g h))
answers_by_strings t next_sibling x g h z = next_by t x g h
answers_by_strings t previous_sibling zero g h z = absurd (omega arith)
answers_by_strings t previous_sibling (suc zero) g h z = left_none t 1 g (there t 1 g h) 0 (omega arith)
answers_by_strings t previous_sibling (suc (suc y)) g h z =
    let x = suc (suc y) in
    previous_by t (suc y) (omega arith) h
    ∙ ap (λ w. where_zero (get_or (R1 (lbs t)) (w - 1) I) w 0) (let e : suc y ≡ x - 1 = omega arith in e)
    ∙ ap (λ b. cond b (where_zero (get_or (R1 (lbs t)) (x - 1 - 1) I) (x - 1) 0) 0) (sym (lt-ltb 1 x (omega arith)))
answers_by_strings t degree x g h z = degree_is t x ∙ ap₂ ◌-◌ (sym (after-own t x g h)) (sym (before-own t x g h))
answers_by_strings t rank zero g h z = absurd (omega arith)
answers_by_strings t rank (suc zero) g h z = root_rank (parents t)
answers_by_strings t rank (suc (suc y)) g h z =
    let x = suc (suc y) in
    other_rank (parents t) x (omega arith)
    ∙ place_is t x g (there t x g h)
    ∙ ap (λ n. x - n) (sym (before_parent t x g h))
    ∙ ap (λ b. cond b (x - given t (given_parent t x)) 0) (sym (lt-ltb 1 x (omega arith)))
answers_by_strings t child x g h z = child_by_lem t x g h z
answers_by_strings t leaf x g h z = leaf_by t x g h
answers_by_strings t sibling x g h z = sibling_by_lem t x g h z
