-- Parent and children of a node: what is read from the strings is the answer.
use mathlib.Core.Path.{◌≡◌, refl, sym, ap, ap₂, ◌∙◌}
use mathlib.Core.List.{List}
use Prim.Native.Nat.{ℕ, zero, suc, ◌+◌, ◌-◌, ◌≤◌, ◌<◌}
use native.Mathlib.Omega.{arith}
use native.Mathlib.Decide.{dec_le}
use lib.IntN.{ℤ, pos, negsuc}
use lib.ListN.{length}
use Rattle.meaning.specs.Strings.{Bit, O, I}
use Rattle.meaning.specs.Bytes.{value}
use Rattle.meaning.specs.Image.{parents_in}
use Rattle.meaning.specs.Questions.{Ask, parent, first_child, last_child, degree, child, leaf, answer}
use Rattle.theory.specs.Rank.{ones_left, position}
use Rattle.theory.specs.ByStrings.{where_zero, bit_of, within, ones_before_by, parent_of, child_by, by_strings}
use Rattle.theory.specs.Stages.{read_r1, read_r0}
use Rattle.theory.proofs.ByStrings.{within-there, within_low, within_high}
use Rattle.image_layout.specs.declared.Layout.{Layout}
use Rattle.bits_byte.proofs.Values.{is_I}
use Rattle.ask_argument.specs.Values.{moved}
use Rattle.nav_children.specs.declared.Children.{Children}
use Rattle.nav_children.specs.Children.{ChildrenAt}
use Rattle.nav_sibling_range.proofs.Counting.{left_next, left_after_one, position_less}
use Rattle.nav_strings.specs.Nodes.{IsNode}
use Rattle.nav_sibling_range.proofs.Own.{strings, given, more0, placed1, small_before}

-- nothing is within bounds that meet
between_none : (low high y : ℕ) → high ≤ low → within low high y ≡ 0
between_none low high y h = elim (dec_le y low) [
  | yes g ↦ within_low low high y g
  | no g ↦ within_high low high y (omega arith)
]

-- ---- any two strings

module _ (r1 r0 : List Bit) where
  pub before_at : (z : ℕ) → 1 ≤ z → ones_before_by r1 r0 z ≡ position r1 (1 + ones_left r0 z)
  unfolding ones_before_by
  before_at zero h = absurd (omega arith)
  before_at (suc z) h = refl

  -- the children are between the ones before zero x and those before zero x + 1
  module _ (x : ℕ) (g : 1 ≤ x) (h : x ≤ length r0) where
    childless : value (bit_of r0 x) ≡ 0 → ones_before_by r1 r0 (suc x) ≡ ones_before_by r1 r0 x
    childless e =
        before_at (suc x) (omega arith)
        ∙ ap (position r1) (let f : 1 + ones_left r0 (suc x) ≡ 1 + ones_left r0 x = omega (arith, left_next r0 x g h) in f)
        ∙ sym (before_at x g)

    children-low : ones_before_by r1 r0 x ≡ position r1 (ones_left r0 x + 1)
    children-low = before_at x g ∙ ap (position r1) (let f : 1 + ones_left r0 x ≡ ones_left r0 x + 1 = omega arith in f)

    children_high : value (bit_of r0 x) ≡ 1 → ones_before_by r1 r0 (suc x) ≡ position r1 (ones_left r0 x + 2)
    children_high e =
        before_at (suc x) (omega arith) ∙ ap (position r1) (let f : 1 + ones_left r0 (suc x) ≡ ones_left r0 x + 2 = omega (arith, left_next r0 x g h) in f)

    child_within : (z : ℤ) → child_by r1 r0 x z ≡ within (ones_before_by r1 r0 x) (ones_before_by r1 r0 (suc x)) (moved (ones_before_by r1 r0 x) z)
    unfolding child_by
    child_within (pos k) = refl
    child_within (negsuc k) = sym (within_low (ones_before_by r1 r0 x) (ones_before_by r1 r0 (suc x)) (ones_before_by r1 r0 x - suc k) (omega arith))

-- ---- the strings of a sound image, and a node

module _ {bytes : List ℕ} {i : Layout} {x : ℕ} (node : IsNode bytes i x) where
  abbrev r1 : List Bit
  r1 = read_r1 bytes

  abbrev r0 : List Bit
  r0 = read_r0 bytes

  abbrev Answers : Ask → ℤ → ℕ → Type 0
  Answers ask z y = y ≡ answer (parents_in bytes) ask x z

  in_r0 : x ≤ length r0
  in_r0 = omega (arith, node.most, (strings bytes i node.sound).length0)

  -- ---- parent

  pub parent_given : (k y : ℕ) → k ≡ ones_left r1 x → y ≡ position r0 k → Answers parent (pos 0) y
  unfolding by_strings parent_of
  parent_given k y e f = given node parent (pos 0) y (f ∙ ap (position r0) e)

  -- ---- leaf

  pub leaf_given : (bit : ℕ) → bit ≡ value (bit_of r0 x) → Answers leaf (pos 0) (1 - bit)
  unfolding by_strings value
  leaf_given bit e = given node leaf (pos 0) (1 - bit) (ap (λ n. 1 - n) e ∙ go (bit_of r0 x))
    where
      go : (v : Bit) → 1 - value v ≡ where_zero v 1 0
      go O = refl
      go I = refl

  -- ---- no children

  module _ (bit : ℕ) (read : bit ≡ value (bit_of r0 x)) (none : bit ≡ 0) where
    met : ones_before_by r1 r0 (suc x) ≡ ones_before_by r1 r0 x
    met = childless r1 r0 x node.some in_r0 (sym read ∙ none)

    pub first-none : Answers first_child (pos 0) 0
    unfolding by_strings
    first-none = given node first_child (pos 0) 0 (sym (between_none (ones_before_by r1 r0 x) (ones_before_by r1 r0 (suc x)) (ones_before_by r1 r0 x + 1) (omega (arith, met))))

    pub last_none : Answers last_child (pos 0) 0
    unfolding by_strings
    last_none = given node last_child (pos 0) 0 (sym (between_none (ones_before_by r1 r0 x) (ones_before_by r1 r0 (suc x)) (ones_before_by r1 r0 (suc x)) (omega (arith, met))))

    pub degree-none : Answers degree (pos 0) 0
    unfolding by_strings
    degree-none = given node degree (pos 0) 0 (omega (arith, met))

    pub child_none : (z : ℤ) → Answers child z 0
    unfolding by_strings
    child_none z =
        given node child z 0
        (sym (child_within r1 r0 x node.some in_r0 z ∙ between_none (ones_before_by r1 r0 x) (ones_before_by r1 r0 (suc x)) (moved (ones_before_by r1 r0 x) z) (omega (arith, met))))

  -- ---- children

  pub has_child : (bit : ℕ) → bit ≡ value (bit_of r0 x) → (bit ≡ 0 → ⊥) → value (bit_of r0 x) ≡ 1
  unfolding value
  has_child bit read some = ap value (is_I (bit_of r0 x) bit read some)

  module _ (one : value (bit_of r0 x) ≡ 1) where
    -- the next run of zeros has its one too
    pub one_more : ones_left r0 x + 2 ≤ i.runs
    one_more = omega (arith, node.most, left_next r0 x node.some in_r0, more0 bytes i node.sound (suc x) (omega arith) (omega (arith, node.most)))

    apart : (k : ℕ) → k ≡ ones_left r0 x → position r1 (k + 1) < position r1 (k + 2)
    apart k e =
        omega (
          arith,
          position_less r1 (k + 1) (omega (arith, one_more, (strings bytes i node.sound).ended1.count)),
          ap (position r1) (let f : suc (k + 1) ≡ k + 2 = omega arith in f),
        )

    children : ones_before_by r1 r0 x < ones_before_by r1 r0 (suc x)
    children = omega (arith, apart (ones_left r0 x) refl, children-low r1 r0 x node.some in_r0, children_high r1 r0 x node.some in_r0 one)

    pub first_some : (y : ℕ) → y ≡ ones_before_by r1 r0 x → Answers first_child (pos 0) (y + 1)
    unfolding by_strings
    first_some y e =
        given node first_child (pos 0) (y + 1) (
        ap (λ n. n + 1) e ∙ sym (within-there (ones_before_by r1 r0 x) (ones_before_by r1 r0 (suc x)) (ones_before_by r1 r0 x + 1) (omega arith) (omega (arith, children)))
        )

    -- the ones before zero x + 1
    next-zero : (y : ℕ) → y ≡ ones_before_by r1 r0 (x + 1) → y ≡ ones_before_by r1 r0 (suc x)
    next-zero y e = e ∙ ap (ones_before_by r1 r0) (let f : x + 1 ≡ suc x = omega arith in f)

    pub last_some : (y : ℕ) → y ≡ ones_before_by r1 r0 (x + 1) → Answers last_child (pos 0) y
    unfolding by_strings
    last_some y e =
        given node last_child (pos 0) y (
        next-zero y e ∙ sym (within-there (ones_before_by r1 r0 x) (ones_before_by r1 r0 (suc x)) (ones_before_by r1 r0 (suc x)) children (omega arith))
        )

    -- ---- both ends, as they are found

    module _ (k after : ℕ) (left : k ≡ ones_left r0 x) (from : after ≡ position r1 (k + 1)) where
      -- the next one comes after node `after`, so that it is not the last node
      pub next-there : after + 1 ≤ i.nodes
      next-there = omega (arith, apart k left, placed1 bytes i node.sound (k + 2))

      pub after_is : after ≡ ones_before_by r1 r0 x
      after_is = from ∙ ap (λ n. position r1 (n + 1)) left ∙ sym (children-low r1 r0 x node.some in_r0)

      -- the first one after one number k + 1
      left_of_next : ones_left r1 (after + 1) ≡ k + 1
      left_of_next =
          ap (ones_left r1) (let e : after + 1 ≡ suc (position r1 (k + 1)) = omega arith in e)
          ∙ left_after_one r1 (k + 1) (omega (arith, one_more, (strings bytes i node.sound).ended1.count))

      pub last_is : (last : ℕ) → last ≡ position r1 (ones_left r1 (after + 1) + 1) → last ≡ ones_before_by r1 r0 (x + 1)
      last_is last to =
          to ∙ ap (position r1) (let e : ones_left r1 (after + 1) + 1 ≡ ones_left r0 x + 2 = omega (arith, left_of_next) in e)
          ∙ sym (children_high r1 r0 x node.some in_r0 one) ∙ ap (ones_before_by r1 r0) (let f : suc x ≡ x + 1 = omega arith in f)

    -- ---- what both ends give

    module _ (r : Children) (at : ChildrenAt bytes x r) where
      pub above : r.after < r.last
      above = omega (arith, at.after, next-zero r.last at.last, children)

      pub small : (r.after ≤ 65535) × (r.last ≤ 65535)
      small = (
        omega (arith, at.after, small_before bytes i node.sound x),
        omega (arith, at.last, small_before bytes i node.sound (x + 1)),
      )

      pub degree-some : Answers degree (pos 0) (r.last - r.after)
      unfolding by_strings
      degree-some = given node degree (pos 0) (r.last - r.after) (ap₂ ◌-◌ (next-zero r.last at.last) at.after)

      pub child_some : (y : ℕ) (z : ℤ) → y ≡ within r.after r.last (moved r.after z) → Answers child z y
      unfolding by_strings
      child_some y z f =
          given node child z y (
          f ∙ ap₂ (λ a b. within a b (moved a z)) at.after (next-zero r.last at.last) ∙ sym (child_within r1 r0 x node.some in_r0 z)
          )
