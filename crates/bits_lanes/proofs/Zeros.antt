-- The zeros below the lowest digit of a number that is set: byte by byte.
use mathlib.Core.Path.{◌≡◌, refl, ap}
use Prim.Native.Nat.{ℕ, zero, suc, ◌+◌, ◌/◌, ◌%◌, ◌^◌, ◌<◌, ◌≤◌}
use native.Mathlib.Nat.{pow-suc}
use native.Mathlib.Omega.{arith}
use lib.Count.{count_trailing_zeros, under}

one-zero : (k n : ℕ) → 1 ≤ count_trailing_zeros (suc k) n → (n % 2 ≡ 0) × (count_trailing_zeros (suc k) n ≡ suc (count_trailing_zeros k (n / 2)))
unfolding count_trailing_zeros
one-zero k n = go (n % 2)
  where
    go : (r : ℕ) → 1 ≤ under r (count_trailing_zeros k (n / 2)) → (r ≡ 0) × (under r (count_trailing_zeros k (n / 2)) ≡ suc (count_trailing_zeros k (n / 2)))
    go zero h = (refl, refl)
    go (suc r) h = absurd (omega arith)

abbrev pub eight_on : ℕ → ℕ
eight_on k = suc (suc (suc (suc (suc (suc (suc (suc k)))))))

-- eight halvings
halved : (k n : ℕ) → count_trailing_zeros k (n / 2 / 2 / 2 / 2 / 2 / 2 / 2 / 2) ≡ count_trailing_zeros k (n / 256)
halved k n = ap (count_trailing_zeros k) (let e : n / 2 / 2 / 2 / 2 / 2 / 2 / 2 / 2 ≡ n / 256 = omega arith in e)

-- a byte of zeros
pub eight-zeros : (k n : ℕ) → 8 ≤ count_trailing_zeros (eight_on k) n → (n % 256 ≡ 0) × (count_trailing_zeros (eight_on k) n ≡ 8 + count_trailing_zeros k (n / 256))
eight-zeros k n h =
    let z1 = one-zero (suc (suc (suc (suc (suc (suc (suc k))))))) n (omega (arith)) in
    let z2 = one-zero (suc (suc (suc (suc (suc (suc k)))))) (n / 2) (omega (arith, z1.1)) in
    let z3 = one-zero (suc (suc (suc (suc (suc k))))) (n / 2 / 2) (omega (arith, z1.1, z2.1)) in
    let z4 = one-zero (suc (suc (suc (suc k)))) (n / 2 / 2 / 2) (omega (arith, z1.1, z2.1, z3.1)) in
    let z5 = one-zero (suc (suc (suc k))) (n / 2 / 2 / 2 / 2) (omega (arith, z1.1, z2.1, z3.1, z4.1)) in
    let z6 = one-zero (suc (suc k)) (n / 2 / 2 / 2 / 2 / 2) (omega (arith, z1.1, z2.1, z3.1, z4.1, z5.1)) in
    let z7 = one-zero (suc k) (n / 2 / 2 / 2 / 2 / 2 / 2) (omega (arith, z1.1, z2.1, z3.1, z4.1, z5.1, z6.1)) in
    let z8 = one-zero k (n / 2 / 2 / 2 / 2 / 2 / 2 / 2) (omega (arith, z1.1, z2.1, z3.1, z4.1, z5.1, z6.1, z7.1)) in
    (omega (arith, z1.0, z2.0, z3.0, z4.0, z5.0, z6.0, z7.0, z8.0), omega (arith, halved k n, z1.1, z2.1, z3.1, z4.1, z5.1, z6.1, z7.1, z8.1))

one_more : (k n : ℕ) → n % 2 ≡ 0 → count_trailing_zeros (suc k) n ≡ suc (count_trailing_zeros k (n / 2))
unfolding count_trailing_zeros
one_more k n h = ap (λ r. under r (count_trailing_zeros k (n / 2))) h

-- zeros of the digits above a byte of zeros
pub eight_more : (k n : ℕ) → n % 256 ≡ 0 → count_trailing_zeros (eight_on k) n ≡ 8 + count_trailing_zeros k (n / 256)
eight_more k n h =
    let z1 = one_more (suc (suc (suc (suc (suc (suc (suc k))))))) n (omega arith) in
    let z2 = one_more (suc (suc (suc (suc (suc (suc k)))))) (n / 2) (omega arith) in
    let z3 = one_more (suc (suc (suc (suc (suc k))))) (n / 2 / 2) (omega arith) in
    let z4 = one_more (suc (suc (suc (suc k)))) (n / 2 / 2 / 2) (omega arith) in
    let z5 = one_more (suc (suc (suc k))) (n / 2 / 2 / 2 / 2) (omega arith) in
    let z6 = one_more (suc (suc k)) (n / 2 / 2 / 2 / 2 / 2) (omega arith) in
    let z7 = one_more (suc k) (n / 2 / 2 / 2 / 2 / 2 / 2) (omega arith) in
    let z8 = one_more k (n / 2 / 2 / 2 / 2 / 2 / 2 / 2) (omega arith) in
    omega (arith, halved k n, z1, z2, z3, z4, z5, z6, z7, z8)

-- there are fewer than digits, if one is set
pub zeros-lt : (k n : ℕ) → 0 < n → n < 2 ^ k → count_trailing_zeros k n < k
unfolding count_trailing_zeros
zeros-lt zero n h l = absurd (omega arith)
zeros-lt (suc k) n h l = go (n % 2) refl (λ e. zeros-lt k (n / 2) (omega arith) (omega (arith, pow-suc 2 k)))
  where
    go : (r : ℕ) → n % 2 ≡ r → (n % 2 ≡ 0 → count_trailing_zeros k (n / 2) < k) → under r (count_trailing_zeros k (n / 2)) < suc k
    go zero e f = omega (arith, f e)
    go (suc r) e f = omega arith
