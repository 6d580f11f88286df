-- The ten answers from R1 and R0 alone, by rank and select (document 01, "Questions", what the
-- strings give).
use Rattle.std.proofs.Math.Bool.{cond}
use Rattle.std.specs.Prelude.{List, ltb, leb, ℤ, pos, negsuc, get_or}
use Prim.Native.Nat.{ℕ, zero, suc, ◌+◌, ◌-◌}
use Rattle.meaning.specs.Strings.{Bit, O, I}
use Rattle.meaning.specs.Questions.{Ask, parent, first_child, last_child, next_sibling, previous_sibling, degree, rank, child, leaf, sibling}
use Rattle.theory.specs.Rank.{ones_left, position}

-- x where a bit is 0, and else y
abbrev pub where_zero : Bit → ℕ → ℕ → ℕ
where_zero O x y = x
where_zero I x y = y

-- the bit at position x, from 1
abbrev pub bit_of : List Bit → ℕ → Bit
bit_of r x = get_or r (x - 1) I

-- y, if it is above low and at most high
unfoldable pub within : ℕ → ℕ → ℕ → ℕ
within low high y = cond (ltb low y) (cond (leb y high) y 0) 0

module _ (r1 r0 : List Bit) where
  -- the ones of the tree string before its zero number z: node x has its children after those of x,
  -- up to those of x + 1
  unfoldable pub ones_before_by : ℕ → ℕ
  ones_before_by zero = 0
  ones_before_by (suc z) = position r1 (1 + ones_left r0 (suc z))

  unfoldable pub parent_of : ℕ → ℕ
  parent_of x = position r0 (ones_left r1 x)

  unfoldable pub child_by : ℕ → ℤ → ℕ
  unfolding ones_before_by within
  child_by x (pos k) = within (ones_before_by x) (ones_before_by (suc x)) (ones_before_by x + k)
  child_by x (negsuc k) = 0

  unfoldable pub sibling_by : ℕ → ℤ → ℕ
  unfolding ones_before_by parent_of within
  sibling_by x (pos k) = within (ones_before_by (parent_of x)) (ones_before_by (suc (parent_of x))) (x + k)
  sibling_by x (negsuc k) = within (ones_before_by (parent_of x)) (ones_before_by (suc (parent_of x))) (x - suc k)

  unfoldable pub by_strings : Ask → ℕ → ℤ → ℕ
  unfolding ones_before_by parent_of within child_by sibling_by
  by_strings parent x z = parent_of x
  by_strings first_child x z = within (ones_before_by x) (ones_before_by (suc x)) (ones_before_by x + 1)
  by_strings last_child x z = within (ones_before_by x) (ones_before_by (suc x)) (ones_before_by (suc x))
  by_strings next_sibling x z = where_zero (bit_of r1 x) (x + 1) 0
  by_strings previous_sibling x z = cond (ltb 1 x) (where_zero (bit_of r1 (x - 1)) (x - 1) 0) 0
  by_strings degree x z = ones_before_by (suc x) - ones_before_by x
  by_strings rank x z = cond (ltb 1 x) (x - ones_before_by (parent_of x)) 0
  by_strings child x z = child_by x z
  by_strings leaf x z = where_zero (bit_of r0 x) 1 0
  by_strings sibling x z = sibling_by x z
