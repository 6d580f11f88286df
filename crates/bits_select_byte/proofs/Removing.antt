-- The first ones of a byte removed, and the first one found by the zeros in front of it: tests that
-- antt computes for each byte.
use mathlib.Core.Path.{◌≡◌, subst}
use mathlib.Core.Bool.{Bool, true, cond}
use mathlib.Core.List.{[], ◌∷◌}
use Prim.Native.Nat.{ℕ, zero, suc, ◌+◌, ◌-◌, ◌*◌, ◌/◌, ◌%◌, ◌^◌, ◌<◌, ◌≤◌}
use native.Mathlib.Omega.{arith}
use borrow.Author.Tests.{lt-ltb}
use lib.Bits.{bit_and}
use lib.Count.{count_leading_zeros, leading_top}
use lib.Dec.{T, eqb, eqb→eq, leb, leb→le, ltb}
use Rattle.meaning.specs.Strings.{ones}
use Rattle.meaning.specs.Bytes.{bit, bit_at, bits_from}
use Rattle.theory.specs.Rank.{position}
use Rattle.theory.proofs.Packing.{bits-length}
use Rattle.theory.proofs.Payloads.{ones-le}
use Rattle.bits_byte.specs.Byte.{byte_bits}
use Rattle.bits_byte.proofs.Table.{both, both_left, both_right, all, at}
use Rattle.bits_select_byte.specs.Without.{Without}

-- ---- of each byte x the first `passed x` ones are removed, and the others moved by d: `left x`

module _ (passed left : ℕ → ℕ) (d : ℕ) where
  abbrev counted : ℕ → Bool
  counted x = eqb (ones (byte_bits (left x))) (ones (byte_bits x) - passed x)

  abbrev same : ℕ → ℕ → Bool
  same x j = eqb (position (byte_bits (left x)) (suc j) + d) (position (byte_bits x) (suc (passed x + j)))

  -- for each one that there is
  abbrev placed : ℕ → ℕ → Bool
  placed x j = cond (ltb (passed x + j) (ones (byte_bits x))) (same x j) true

  removed : T (all counted 256) → T (all (λ x. all (placed x) 8) 256) → (x : ℕ) → x < 256 → Without (passed x) d (byte_bits x) (byte_bits (left x))
  removed t u x h = record {
    count = eqb→eq (ones (byte_bits (left x))) (ones (byte_bits x) - passed x) (at counted 256 t x h);
    place = λ k g l.
        let j = k - suc (passed x) in
        let small : j < 8 = omega (arith, ones-le (byte_bits x), bits-length (x ∷ []) 0 8) in
        let there = lt-ltb (passed x + j) (ones (byte_bits x)) (omega arith) in
        let here : T (same x j) = subst (λ b. T (cond b (same x j) true)) there (at (placed x) 8 (at (λ y. all (placed y) 8) 256 u x h) j small) in
        let found = eqb→eq (position (byte_bits (left x)) (suc j) + d) (position (byte_bits x) (suc (passed x + j))) here in
        let e : suc j ≡ k - passed x = omega arith in
        let f : suc (passed x + j) ≡ k = omega arith in
        cc;
  }

pub half_removed : (x : ℕ) → x < 256 → Without (ones (byte_bits (x / 16))) 4 (byte_bits x) (byte_bits (x * 16 % 256))
unfolding bits_from bit_at bit
half_removed = removed (λ x. ones (byte_bits (x / 16))) (λ x. x * 16 % 256) 4 tt tt

pub quarter_removed : (x : ℕ) → x < 256 → Without (ones (byte_bits (x / 64))) 0 (byte_bits x) (byte_bits (bit_and x 63))
unfolding bits_from bit_at bit
quarter_removed = removed (λ x. ones (byte_bits (x / 64))) (λ x. bit_and x 63) 0 tt tt

pub first_removed : (x : ℕ) → x < 256 → Without 1 0 (byte_bits x) (byte_bits (bit_and x (127 / 2 ^ count_leading_zeros 8 x)))
unfolding count_leading_zeros bits_from bit_at bit
first_removed = removed (λ x. 1) (λ x. bit_and x (127 / 2 ^ count_leading_zeros 8 x)) 0 tt tt

-- ---- where the ones are

-- the second half, moved to the front, has them all in front
abbrev all-front : ℕ → Bool
all-front x = eqb (ones (byte_bits (x * 16 % 256 / 16))) (ones (byte_bits (x * 16 % 256)))

pub front-ones : (x : ℕ) → x < 256 → ones (byte_bits (x * 16 % 256 / 16)) ≡ ones (byte_bits (x * 16 % 256))
unfolding bits_from bit_at bit
front-ones x h = eqb→eq (ones (byte_bits (x * 16 % 256 / 16))) (ones (byte_bits (x * 16 % 256))) (at all-front 256 tt x h)

-- the first two bits have at most two, and the two after them at most two more
abbrev few : ℕ → Bool
few x = both (leb (ones (byte_bits (x / 64))) 2) (leb (ones (byte_bits (x / 16))) (ones (byte_bits (x / 64)) + 2))

pub few_ones : (x : ℕ) → x < 256 → (ones (byte_bits (x / 64)) ≤ 2) × (ones (byte_bits (x / 16)) ≤ ones (byte_bits (x / 64)) + 2)
unfolding bits_from bit_at bit
few_ones x h =
    let t = at few 256 tt x h in
    let two = ones (byte_bits (x / 64)) in
    let four = ones (byte_bits (x / 16)) in
    (leb→le two 2 (both_left (leb two 2) (leb four (two + 2)) t), leb→le four (two + 2) (both_right (leb two 2) (leb four (two + 2)) t))

-- ---- the zeros in front of the first one

abbrev led : ℕ → Bool
led x = eqb (count_leading_zeros 8 x + 1) (position (byte_bits x) 1)

pub first-place : (x : ℕ) → x < 256 → 1 ≤ ones (byte_bits x) → count_leading_zeros 8 x + 1 ≡ position (byte_bits x) 1
unfolding count_leading_zeros bits_from bit_at bit
first-place zero h g = absurd (omega arith)
first-place (suc x) h g = eqb→eq (count_leading_zeros 8 (suc x) + 1) (position (byte_bits (suc x)) 1) (at (λ y. led (suc y)) 255 tt x (omega arith))

pub zeros_less : (x : ℕ) → x < 256 → 1 ≤ ones (byte_bits x) → count_leading_zeros 8 x < 8
unfolding bits_from bit_at bit
zeros_less zero h g = absurd (omega arith)
zeros_less (suc x) h g = omega (arith, (leading_top 8 (suc x) (omega arith) h).1)
