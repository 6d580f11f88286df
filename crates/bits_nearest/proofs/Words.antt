-- Where the first and the last one of the bits in a word are.
use mathlib.Core.Path.{◌≡◌, refl, sym, ap, ◌∙◌}
use mathlib.Core.List.{List}
use Prim.Native.Nat.{ℕ, zero, suc, ◌+◌, ◌-◌, ◌*◌, ◌/◌, ◌%◌, ◌^◌, ◌≤◌, ◌<◌}
use native.Mathlib.Nat.{pow-suc, mod-lt, lt_of_lt_of_le, lt_of_le_of_lt}
use native.Mathlib.Omega.{arith}
use native.Mathlib.Decide.{dec_le}
use lib.Bits.{bit_and, and_mask}
use lib.Count.{count_leading_zeros, count_trailing_zeros, under, leading_top}
use lib.Pow.{pow_pos, pow_mono, shr-shr, shr_le, high, field, mod-mod-pow, ones_split, ones_lt}
use Rattle.meaning.specs.Bytes.{bit_at, bits_from, number, value}
use Rattle.theory.proofs.Digits.{number_lt}
use Rattle.bits_count.proofs.Words.{ending_ones}

-- ---- digits of numbers

-- the low digits of a number are those of what is left when the high ones are cut off
digit_low : (n k i : ℕ) → i < k → n % 2 ^ k / 2 ^ i % 2 ≡ n / 2 ^ i % 2
digit_low n k i h =
    let j = k - i - 1 in
    ap (λ m. n % 2 ^ m / 2 ^ i % 2) (let e : k ≡ j + 1 + i = omega arith in e)
    ∙ ap (λ m. m % 2) (field n (j + 1) i)
    ∙ mod-mod-pow (n / 2 ^ i) j 1

-- above a number there are zeros
above_zero : (a m i : ℕ) → a < 2 ^ m → m ≤ i → a / 2 ^ i % 2 ≡ 0
above_zero a m i h g =
    ap (λ n. n / 2 ^ i % 2) (let e : a ≡ 0 * 2 ^ i + a = omega arith in e) ∙ ap (λ n. n % 2) (high 0 i (lt_of_lt_of_le h (pow_mono g)))

no_digit : (i : ℕ) → 0 / 2 ^ i % 2 ≡ 0
no_digit i = above_zero 0 0 i (omega arith) (omega arith)

top_one : (a j : ℕ) → 2 ^ j ≤ a → a < 2 ^ suc j → a / 2 ^ j % 2 ≡ 1
top_one a j g h =
    ap (λ n. n / 2 ^ j % 2) (let e : a ≡ 1 * 2 ^ j + (a - 2 ^ j) = omega arith in e)
    ∙ ap (λ n. n % 2) (high 1 j (let l : a - 2 ^ j < 2 ^ j = omega (arith, pow-suc 2 j) in l))

below : (j k : ℕ) → 2 ^ j < 2 ^ k → j < k
below j k h = elim (dec_le (suc j) k) [
  | yes g ↦ g
  | no g ↦ absurd (let l : k ≤ j = omega arith in let m : 2 ^ k ≤ 2 ^ j = pow_mono l in omega arith)
]

half_first : (n t : ℕ) → n / 2 ^ suc t ≡ n / 2 / 2 ^ t
half_first n t = ap (λ m. n / 2 ^ m) (let e : suc t ≡ 1 + t = omega arith in e) ∙ sym (shr-shr n 1 t)

trailing_zero : (k n j : ℕ) → j < count_trailing_zeros k n → n / 2 ^ j % 2 ≡ 0
unfolding count_trailing_zeros
trailing_zero zero n j h = absurd (omega arith)
trailing_zero (suc k) n j h = go (n % 2) refl j (trailing_zero k (n / 2)) h
  where
    go : (r : ℕ) → n % 2 ≡ r → (j : ℕ) → ((i : ℕ) → i < count_trailing_zeros k (n / 2) → n / 2 / 2 ^ i % 2 ≡ 0) → j < under r (count_trailing_zeros k (n / 2)) → n / 2 ^ j % 2 ≡ 0
    go zero e zero ih h = omega arith
    go zero e (suc j) ih h = ap (λ m. m % 2) (half_first n j) ∙ ih j (omega arith)
    go (suc r) e j ih h = absurd (omega arith)

trailing_one : (k n : ℕ) → 0 < n → n < 2 ^ k → n / 2 ^ count_trailing_zeros k n % 2 ≡ 1
unfolding count_trailing_zeros
trailing_one zero n h g = absurd (omega arith)
trailing_one (suc k) n h g = go (n % 2) refl (λ e. trailing_one k (n / 2) (omega arith) (omega (arith, pow-suc 2 k)))
  where
    go : (r : ℕ) → n % 2 ≡ r → (n % 2 ≡ 0 → n / 2 / 2 ^ count_trailing_zeros k (n / 2) % 2 ≡ 1) → n / 2 ^ under r (count_trailing_zeros k (n / 2)) % 2 ≡ 1
    go zero e ih = ap (λ m. m % 2) (half_first n (count_trailing_zeros k (n / 2))) ∙ ih e
    go (suc r) e ih = omega arith

-- ---- the 64 bits from bit q on

module _ (bytes : List ℕ) (q w : ℕ) (e : w ≡ number 64 (bits_from bytes q 64)) where
  digit_is : (p : ℕ) → p < 64 → w / 2 ^ (63 - p) % 2 ≡ value (bit_at bytes (q + p))
  digit_is p h = (ending_ones bytes q p w h e).1

  word_lt : w < 2 ^ 64
  word_lt = omega (arith, number_lt 64 (bits_from bytes q 64))

  -- the last one of the first 64 - s
  module _ (s : ℕ) where
    at-digit : (j : ℕ) → s + j < 64 → w / 2 ^ s / 2 ^ j % 2 ≡ value (bit_at bytes (q + (63 - s - j)))
    at-digit j h =
        ap (λ m. m % 2) (shr-shr w s j)
        ∙ ap (λ m. w / 2 ^ m % 2) (let f : s + j ≡ 63 - (63 - s - j) = omega arith in f)
        ∙ digit_is (63 - s - j) (omega arith)

    pub last_none : w / 2 ^ s ≡ 0 → (j : ℕ) → s + j < 64 → value (bit_at bytes (q + (63 - s - j))) ≡ 0
    last_none none j h = sym (at-digit j h) ∙ ap (λ m. m / 2 ^ j % 2) none ∙ no_digit j

    module _ (some : w / 2 ^ s ≡ 0 → ⊥) where
      abbrev behind : ℕ
      behind = count_trailing_zeros 64 (w / 2 ^ s)

      odd : w / 2 ^ (s + behind) % 2 ≡ 1
      odd =
          ap (λ m. m % 2) (sym (shr-shr w s behind))
          ∙ trailing_one 64 (w / 2 ^ s) (omega arith) (lt_of_le_of_lt (shr_le w s) word_lt)

      pub last_in : s + behind < 64
      last_in = elim (dec_le (suc (s + behind)) 64) [
        | yes g ↦ g
        | no g ↦ absurd (omega (arith, odd, above_zero w 64 (s + behind) word_lt (omega arith)))
      ]

      pub last_one : value (bit_at bytes (q + (63 - s - behind))) ≡ 1
      last_one = sym (at-digit behind last_in) ∙ ap (λ m. m % 2) (shr-shr w s behind) ∙ odd

      pub last-zeros : (j : ℕ) → j < behind → value (bit_at bytes (q + (63 - s - j))) ≡ 0
      last-zeros j h = sym (at-digit j (omega (arith, last_in))) ∙ trailing_zero 64 (w / 2 ^ s) j h

  -- the first one after the first r
  module _ (r near : ℕ) (l : r < 64) (cut : near ≡ bit_and w (18446744073709551615 / 2 ^ r)) where
    mask : 18446744073709551615 / 2 ^ r ≡ 2 ^ (64 - r) - 1
    mask =
        ap (λ m. (2 ^ m - 1) / 2 ^ r) (let f : 64 ≡ 64 - r + r = omega arith in f)
        ∙ ap (λ m. m / 2 ^ r) (ones_split (64 - r) r)
        ∙ high (2 ^ (64 - r) - 1) r (ones_lt r)

    low_part : near ≡ w % 2 ^ (64 - r)
    low_part = cut ∙ ap (bit_and w) mask ∙ and_mask w (64 - r)

    near-lt : near < 2 ^ (64 - r)
    near-lt = omega (arith, low_part, mod-lt w (pow_pos (64 - r)))

    at_place : (p : ℕ) → r ≤ p → p < 64 → near / 2 ^ (63 - p) % 2 ≡ value (bit_at bytes (q + p))
    at_place p g h =
        ap (λ m. m / 2 ^ (63 - p) % 2) low_part ∙ digit_low w (64 - r) (63 - p) (omega arith) ∙ digit_is p h

    pub first-none : near ≡ 0 → (p : ℕ) → r ≤ p → p < 64 → value (bit_at bytes (q + p)) ≡ 0
    first-none none p g h = sym (at_place p g h) ∙ ap (λ m. m / 2 ^ (63 - p) % 2) none ∙ no_digit (63 - p)

    module _ (some : near ≡ 0 → ⊥) where
      abbrev first : ℕ
      first = count_leading_zeros 64 near

      top : (j : ℕ) × (first + suc j ≡ 64) × (2 ^ j ≤ near) × (near < 2 ^ suc j)
      top = leading_top 64 near (omega arith) (lt_of_lt_of_le near-lt (let g : 64 - r ≤ 64 = omega arith in pow_mono g))

      pub first_in : first < 64
      first_in = omega (arith, top.1)

      pub first-from : r ≤ first
      first-from = omega (arith, top.1, below top.0 (64 - r) (lt_of_le_of_lt top.2 near-lt))

      pub first_one : value (bit_at bytes (q + first)) ≡ 1
      first_one =
          sym (at_place first first-from first_in)
          ∙ ap (λ m. near / 2 ^ m % 2) (let f : 63 - first ≡ top.0 = omega (arith, top.1) in f)
          ∙ top_one near top.0 top.2 top.3

      pub first-zeros : (p : ℕ) → r ≤ p → p < first → value (bit_at bytes (q + p)) ≡ 0
      first-zeros p g h =
          sym (at_place p g (omega (arith, first_in)))
          ∙ above_zero near (suc top.0) (63 - p) top.3 (omega (arith, top.1))
