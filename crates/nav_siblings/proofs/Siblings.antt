-- Siblings of a node: what is read from the strings is the answer.
use mathlib.Core.Path.{◌≡◌, refl, sym, ap, ap₂, ◌∙◌}
use mathlib.Core.Bool.{cond}
use mathlib.Core.List.{List}
use Prim.Native.Nat.{ℕ, zero, suc, ◌+◌, ◌-◌, ◌≤◌, ◌<◌}
use native.Mathlib.Omega.{arith}
use borrow.Author.Tests.{lt-ltb, le-ltb}
use lib.Dec.{ltb}
use lib.IntN.{ℤ, pos, negsuc}
use Rattle.meaning.specs.Strings.{Bit, ones}
use Rattle.meaning.specs.Bytes.{value}
use Rattle.meaning.specs.Image.{parents_in}
use Rattle.meaning.specs.Questions.{Ask, next_sibling, previous_sibling, rank, sibling, answer}
use Rattle.theory.specs.Rank.{ones_left, position}
use Rattle.theory.specs.ByStrings.{where_zero, bit_of, within, ones_before_by, parent_of, sibling_by, by_strings}
use Rattle.theory.specs.Stages.{read_r1, read_r0}
use Rattle.theory.proofs.Navigate.{position-zero}
use Rattle.theory.proofs.ByStrings.{within-there, within_low, within_high}
use Rattle.image_layout.specs.declared.Layout.{Layout}
use Rattle.ask_argument.specs.Values.{moved}
use Rattle.bits_byte.proofs.Values.{is_O, is_I}
use Rattle.nav_strings.specs.Nodes.{IsNode}
use Rattle.nav_sibling_range.proofs.Counting.{left_of_one, left_after_one, left_before, right_from, position_less}
use Rattle.nav_sibling_range.proofs.Own.{strings, given, more1}
use Rattle.nav_children.proofs.Families.{before_at}

-- ---- any two strings

module _ (r1 r0 : List Bit) where
  -- siblings are between two ones of R1 that follow each other: before x's parent's zero, and
  -- before the next zero
  module _ (x : ℕ) (there : ones_left r1 x ≤ ones r0) where
    siblings_low : ones_before_by r1 r0 (parent_of r1 r0 x) ≡ position r1 (ones_left r1 x)
    unfolding ones_before_by parent_of
    siblings_low = go (ones_left r1 x) there
      where
        go : (k : ℕ) → k ≤ ones r0 → ones_before_by r1 r0 (position r0 k) ≡ position r1 k
        go zero h = ap (ones_before_by r1 r0) (position-zero r0) ∙ sym (position-zero r1)
        go (suc k) h =
            before_at r1 r0 (position r0 (suc k)) (omega (arith, position_less r0 k h))
            ∙ ap (position r1) (let e : 1 + ones_left r0 (position r0 (suc k)) ≡ suc k = omega (arith, left_of_one r0 k h) in e)

    siblings_high : ones_before_by r1 r0 (suc (parent_of r1 r0 x)) ≡ position r1 (ones_left r1 x + 1)
    unfolding parent_of
    siblings_high =
        let k = ones_left r1 x in
        before_at r1 r0 (suc (position r0 k)) (omega arith)
        ∙ ap (position r1) (let e : 1 + ones_left r0 (suc (position r0 k)) ≡ k + 1 = omega (arith, left_after_one r0 k there) in e)

    sibling_within : (z : ℤ) → sibling_by r1 r0 x z ≡ within (ones_before_by r1 r0 (parent_of r1 r0 x)) (ones_before_by r1 r0 (suc (parent_of r1 r0 x))) (moved x z)
    unfolding sibling_by
    sibling_within (pos k) = refl
    sibling_within (negsuc k) = refl

-- ---- the strings of a sound image, and a node

module _ {bytes : List ℕ} {i : Layout} {x : ℕ} (node : IsNode bytes i x) where
  abbrev r1 : List Bit
  r1 = read_r1 bytes

  abbrev r0 : List Bit
  r0 = read_r0 bytes

  abbrev Answers : Ask → ℤ → ℕ → Type 0
  Answers ask z y = y ≡ answer (parents_in bytes) ask x z

  -- what the strings give where the root is set apart: 0 for the root, and else y
  at-root : x ≡ 1 → (y : ℕ) → 0 ≡ cond (ltb 1 x) y 0
  at-root e y = sym (ap (λ b. cond b y 0) (le-ltb 1 x (omega arith)))

  past-root : 1 < x → (y : ℕ) → y ≡ cond (ltb 1 x) y 0
  past-root l y = sym (ap (λ b. cond b y 0) (lt-ltb 1 x l))

  -- ---- the next one and the one before

  module _ (bit : ℕ) (read : bit ≡ value (bit_of r1 x)) where
    pub next-none : (bit ≡ 0 → ⊥) → Answers next_sibling (pos 0) 0
    unfolding by_strings
    next-none n = given node next_sibling (pos 0) 0 (ap (λ v. where_zero v (x + 1) 0) (sym (is_I (bit_of r1 x) bit read n)))

    pub next-some : bit ≡ 0 → Answers next_sibling (pos 0) (x + 1)
    unfolding by_strings
    next-some e = given node next_sibling (pos 0) (x + 1) (ap (λ v. where_zero v (x + 1) 0) (sym (is_O (bit_of r1 x) bit read e)))

  pub previous_first : x ≡ 1 → Answers previous_sibling (pos 0) 0
  unfolding by_strings
  previous_first e = given node previous_sibling (pos 0) 0 (at-root e (where_zero (bit_of r1 (x - 1)) (x - 1) 0))

  module _ (later : 1 < x) (bit : ℕ) (read : bit ≡ value (bit_of r1 (x - 1))) where
    previous_given : (y : ℕ) → y ≡ where_zero (bit_of r1 (x - 1)) (x - 1) 0 → Answers previous_sibling (pos 0) y
    unfolding by_strings
    previous_given y e = given node previous_sibling (pos 0) y (e ∙ past-root later (where_zero (bit_of r1 (x - 1)) (x - 1) 0))

    pub previous_none : (bit ≡ 0 → ⊥) → Answers previous_sibling (pos 0) 0
    previous_none n = previous_given 0 (ap (λ v. where_zero v (x - 1) 0) (sym (is_I (bit_of r1 (x - 1)) bit read n)))

    pub previous_some : bit ≡ 0 → Answers previous_sibling (pos 0) (x - 1)
    previous_some e = previous_given (x - 1) (ap (λ v. where_zero v (x - 1) 0) (sym (is_O (bit_of r1 (x - 1)) bit read e)))

  -- ---- all of them

  siblings_there : ones_left r1 x ≤ ones r0
  siblings_there =
      omega (arith, (strings bytes i node.sound).ended0.count, more1 node)

  -- the last node before the siblings of x, and the last of them
  abbrev start : ℕ
  start = position r1 (ones_left r1 x)

  abbrev end : ℕ
  end = position r1 (ones_left r1 x + 1)

  start_is : start ≡ ones_before_by r1 r0 (parent_of r1 r0 x)
  start_is = sym (siblings_low r1 r0 x siblings_there)

  pub rank_root : x ≡ 1 → Answers rank (pos 0) 0
  unfolding by_strings
  rank_root e = given node rank (pos 0) 0 (at-root e (x - ones_before_by r1 r0 (parent_of r1 r0 x)))

  module _ (low : ℕ) (from : low ≡ start) where
    pub rank_above : low < x
    rank_above = omega (arith, left_before r1 x node.some)

    pub rank_given : 1 < x → Answers rank (pos 0) (x - low)
    unfolding by_strings
    rank_given later =
        given node rank (pos 0) (x - low) (ap (λ n. x - n) (from ∙ start_is) ∙ past-root later (x - ones_before_by r1 r0 (parent_of r1 r0 x)))

  module _ (y : ℕ) (z : ℤ) (place : y ≡ moved x z) where
    sibling_given : (v : ℕ) → v ≡ within start end y → Answers sibling z v
    unfolding by_strings
    sibling_given v e =
        given node sibling z v (
        e ∙ ap (within start end) place
        ∙ ap₂ (λ a b. within a b (moved x z)) start_is (sym (siblings_high r1 r0 x siblings_there))
        ∙ sym (sibling_within r1 r0 x siblings_there z)
        )

    -- x is among its siblings
    upto : x ≤ end
    upto =
        omega (
          arith,
          right_from r1 x (omega (arith, (strings bytes i node.sound).ended1.count, more1 node)),
          ap (position r1) (let e : suc (ones_left r1 x) ≡ ones_left r1 x + 1 = omega arith in e),
        )

    module _ (low : ℕ) (from : low ≡ start) where
      pub left_none : y ≤ low → Answers sibling z 0
      left_none e = sibling_given 0 (sym (within_low start end y (omega arith)))

      pub left_some : low < y → y < x → Answers sibling z y
      left_some e f = sibling_given y (sym (within-there start end y (omega arith) (omega (arith, upto))))

    module _ (high : ℕ) (to : high ≡ end) where
      pub right_none : high < y → Answers sibling z 0
      right_none e = sibling_given 0 (sym (within_high start end y (omega arith)))

      pub right_some : x ≤ y → y ≤ high → Answers sibling z y
      right_some e f = sibling_given y (sym (within-there start end y (omega (arith, left_before r1 x node.some)) (omega arith)))
