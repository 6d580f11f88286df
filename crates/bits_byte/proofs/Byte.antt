-- A byte bit by bit, most significant first: or, and, shifts, and the byte of given bits.
use mathlib.Core.Path.{◌≡◌, refl, sym, ap, ap₂, ◌∙◌}
use mathlib.Core.Bool.{Bool, true, false}
use mathlib.Core.List.{List, [], ◌∷◌, ◌++◌, head-eq_of_cons-eq}
use Prim.Native.Nat.{ℕ, zero, suc, ◌+◌, ◌-◌, ◌*◌, ◌/◌, ◌%◌, ◌^◌, ◌<◌, ◌≤◌}
use native.Mathlib.Nat.{mod-lt, zero-lt-suc, div-eq_of_lt, lt_of_lt_of_le, mul_assoc}
use native.Mathlib.Decide.{dec_lt}
use native.Mathlib.Omega.{arith}
use borrow.Author.Tests.{lt-ltb, le-ltb}
use lib.Dec.{eqb, eqb→eq, ltb}
use lib.Bits.{bit_or, bit_and, or_shr, or_mod, and_shr, and_mod, or_lt, and_le_l, shifted_even}
use lib.Pow.{pow_mono, pow-add, shr-shr, shr_le, shl-shr, field, mod-mod-pow}
use lib.ListN.{length, get_or, take, drop, replicate, length-take, get_or-append, get_or-eq_default}
use lib.Seq.{get_or-take, get_or-drop, get_or-append-add}
use Rattle.meaning.specs.Strings.{Bit, O, I}
use Rattle.meaning.specs.Bytes.{bit, bit_at, bits_from, number, value}
use Rattle.theory.specs.Layout.{AreBytes}
use Rattle.theory.proofs.Digits.{number_lt, number_bit, same_bits_lem}
use Rattle.theory.proofs.Packing.{bits_at}
use Rattle.bits_byte.specs.Byte.{byte_bits}
use Rattle.bits_byte.proofs.Table.{all, at}

-- the bit of x that j bits come before
abbrev pub digit : ℕ → ℕ → Bit
digit x j = bit (x / 2 ^ (7 - j) % 2)

pub zeros-at : (n i : ℕ) → get_or (replicate n O) i O ≡ O
zeros-at zero i = refl
zeros-at (suc n) zero = refl
zeros-at (suc n) (suc i) = zeros-at n i

-- ---- or and and

abbrev pub either : Bit → Bit → Bit
either O c = c
either I c = I

pub either-zero : (b : Bit) → either b O ≡ b
either-zero O = refl
either-zero I = refl

pub either-one : (b : Bit) → either b I ≡ I
either-one O = refl
either-one I = refl

abbrev together : Bit → Bit → Bit
together b O = O
together b I = b

or-bit : (a b : ℕ) → a < 2 → b < 2 → bit (bit_or a b) ≡ either (bit a) (bit b)
unfolding bit
or-bit zero zero h g = refl
or-bit zero (suc zero) h g = refl
or-bit zero (suc (suc b)) h g = absurd (omega arith)
or-bit (suc zero) zero h g = refl
or-bit (suc zero) (suc zero) h g = refl
or-bit (suc zero) (suc (suc b)) h g = absurd (omega arith)
or-bit (suc (suc a)) b h g = absurd (omega arith)

and-bit : (a b : ℕ) → a < 2 → b < 2 → bit (bit_and a b) ≡ together (bit a) (bit b)
unfolding bit
and-bit zero zero h g = refl
and-bit zero (suc zero) h g = refl
and-bit zero (suc (suc b)) h g = absurd (omega arith)
and-bit (suc zero) zero h g = refl
and-bit (suc zero) (suc zero) h g = refl
and-bit (suc zero) (suc (suc b)) h g = absurd (omega arith)
and-bit (suc (suc a)) b h g = absurd (omega arith)

pub or-digit : (a b j : ℕ) → digit (bit_or a b) j ≡ either (digit a j) (digit b j)
or-digit a b j =
    let x = a / 2 ^ (7 - j) in
    let y = b / 2 ^ (7 - j) in
    ap (λ n. bit (n % 2)) (or_shr a b (7 - j)) ∙ ap bit (or_mod x y 1) ∙ or-bit (x % 2) (y % 2) (mod-lt x (zero-lt-suc 1)) (mod-lt y (zero-lt-suc 1))

and-digit : (a b j : ℕ) → digit (bit_and a b) j ≡ together (digit a j) (digit b j)
and-digit a b j =
    let x = a / 2 ^ (7 - j) in
    let y = b / 2 ^ (7 - j) in
    ap (λ n. bit (n % 2)) (and_shr a b (7 - j)) ∙ ap bit (and_mod x y 1) ∙ and-bit (x % 2) (y % 2) (mod-lt x (zero-lt-suc 1)) (mod-lt y (zero-lt-suc 1))

-- ---- shifts

shr_front : (y r j : ℕ) → y < 256 → j < r → digit (y / 2 ^ r) j ≡ O
unfolding bit
shr_front y r j h g =
    let l : y < 2 ^ (r + (7 - j)) = lt_of_lt_of_le h (pow_mono {i = 8} {j = r + (7 - j)} (omega arith)) in
    ap (λ n. bit (n % 2)) (shr-shr y r (7 - j) ∙ div-eq_of_lt l)

shr_back : (y r j : ℕ) → r ≤ j → j < 8 → digit (y / 2 ^ r) j ≡ digit y (j - r)
shr_back y r j h g =
    ap (λ n. bit (n % 2)) (shr-shr y r (7 - j)) ∙ ap (λ k. bit (y / 2 ^ k % 2)) (let e : r + (7 - j) ≡ 7 - (j - r) = omega arith in e)

low_digit : (y j : ℕ) → j < 8 → digit (y % 256) j ≡ digit y j
low_digit y j h =
    let e : 8 ≡ suc j + (7 - j) = omega arith in
    let s : suc j ≡ j + 1 = omega arith in
    ap (λ k. bit (y % 2 ^ k / 2 ^ (7 - j) % 2)) e
    ∙ ap (λ n. bit (n % 2)) (field y (suc j) (7 - j))
    ∙ ap (λ k. bit (y / 2 ^ (7 - j) % 2 ^ k % 2)) s
    ∙ ap bit (mod-mod-pow (y / 2 ^ (7 - j)) j 1)

shl_front : (y s j : ℕ) → s + j < 8 → digit (y * 2 ^ s) j ≡ digit y (s + j)
shl_front y s j h =
    let t = 7 - (s + j) in
    ap (λ k. bit (y * 2 ^ s / 2 ^ k % 2)) (let e : 7 - j ≡ s + t = omega arith in e)
    ∙ ap (λ n. bit (n % 2)) (sym (shr-shr (y * 2 ^ s) s t) ∙ ap (λ n. n / 2 ^ t) (shl-shr y s))

shl_back : (y s j : ℕ) → 8 ≤ s + j → j < 8 → digit (y * 2 ^ s) j ≡ O
unfolding bit
shl_back y s j h g =
    let t = 7 - j in
    let u = s + j - 8 in
    ap (λ n. bit (n / 2 ^ t % 2))
    (ap (λ k. y * 2 ^ k) (let e : s ≡ suc u + t = omega arith in e) ∙ ap (λ n. y * n) (pow-add 2 (suc u) t) ∙ sym (mul_assoc y (2 ^ suc u) (2 ^ t)))
    ∙ ap (λ n. bit (n % 2)) (shl-shr (y * 2 ^ suc u) t)
    ∙ ap bit (shifted_even y u)

-- ---- a byte alone

alone : (x p : ℕ) → p < 8 → bit_at (x ∷ []) p ≡ digit x p
unfolding bit_at
alone x p h =
    ap₂ (λ q r. bit (get_or (x ∷ []) q 0 / 2 ^ (7 - r) % 2)) (let e : p / 8 ≡ 0 = omega arith in e) (let e : p % 8 ≡ p = omega arith in e)

pub byte_digit : (x j : ℕ) → j < 8 → get_or (byte_bits x) j O ≡ digit x j
byte_digit x j h =
    bits_at (x ∷ []) 0 8 j h ∙ ap (bit_at (x ∷ [])) (let e : 0 + j ≡ j = omega arith in e) ∙ alone x j h

one_byte : (x : ℕ) → x < 256 → AreBytes (x ∷ [])
one_byte x h zero l = h
one_byte x h (suc i) l = absurd (omega arith)

pub same_byte : (a b : ℕ) → a < 256 → b < 256 → ((j : ℕ) → j < 8 → digit a j ≡ digit b j) → a ≡ b
same_byte a b ha hb e =
    head-eq_of_cons-eq (same_bits_lem (a ∷ []) (b ∷ []) (one_byte a ha) (one_byte b hb) refl
    (λ p h. let l : p < 8 = omega arith in alone a p l ∙ e p l ∙ sym (alone b p l)))

abbrev is_number : ℕ → Bool
is_number x = eqb (number 8 (byte_bits x)) x

-- its bits write it
pub byte_number : (x : ℕ) → x < 256 → number 8 (byte_bits x) ≡ x
unfolding number value bits_from bit_at bit
byte_number x h = eqb→eq (number 8 (byte_bits x)) x (at is_number 256 tt x h)

-- ---- the byte of given bits; what is missing is zero

pub number-digit : (bs : List Bit) (j : ℕ) → j < 8 → digit (number 8 bs) j ≡ get_or bs j O
number-digit bs j h = number_bit 8 bs j h

-- some bits, and others shifted after them
pub joined : (front bs : List Bit) → length front ≤ 8 → bit_or (number 8 front) (number 8 bs / 2 ^ length front) ≡ number 8 (front ++ bs)
joined front bs h =
    let r = length front in
    let y = number 8 bs in
    same_byte (bit_or (number 8 front) (y / 2 ^ r)) (number 8 (front ++ bs))
    (or_lt 8 (number 8 front) (y / 2 ^ r) (number_lt 8 front) (omega (arith, shr_le y r, number_lt 8 bs))) (number_lt 8 (front ++ bs))
    (λ j g. or-digit (number 8 front) (y / 2 ^ r) j ∙ here j g ∙ sym (number-digit (front ++ bs) j g))
  where
    here : (j : ℕ) → j < 8 → either (digit (number 8 front) j) (digit (number 8 bs / 2 ^ length front) j) ≡ get_or (front ++ bs) j O
    here j g = elim (dec_lt j (length front)) [
      | yes l ↦ ap₂ either (number-digit front j g) (shr_front (number 8 bs) (length front) j (number_lt 8 bs) l) ∙ either-zero (get_or front j O) ∙ sym (get_or-append front bs O j l)
      | no l ↦ let i = j - length front in
          let e : j ≡ length front + i = omega arith in
          ap₂ either (number-digit front j g ∙ get_or-eq_default front O (omega arith)) (shr_back (number 8 bs) (length front) j (omega arith) g ∙ number-digit bs i (omega arith))
          ∙ sym (ap (λ k. get_or (front ++ bs) k O) e ∙ get_or-append-add front bs i O)
    ]

-- the bits after the first s
pub spilled : (bs : List Bit) (s : ℕ) → length bs ≤ 8 → number 8 bs * 2 ^ s % 256 ≡ number 8 (drop s bs)
spilled bs s room =
    let y = number 8 bs in
    same_byte (y * 2 ^ s % 256) (number 8 (drop s bs)) (mod-lt (y * 2 ^ s) (zero-lt-suc 255)) (number_lt 8 (drop s bs))
    (λ j h. low_digit (y * 2 ^ s) j h ∙ here j h ∙ sym (get_or-drop s bs j O) ∙ sym (number-digit (drop s bs) j h))
  where
    here : (j : ℕ) → j < 8 → digit (number 8 bs * 2 ^ s) j ≡ get_or bs (s + j) O
    here j h = elim (dec_lt (s + j) 8) [
      | yes l ↦ shl_front (number 8 bs) s j l ∙ number-digit bs (s + j) l
      | no l ↦ shl_back (number 8 bs) s j (omega arith) h ∙ sym (get_or-eq_default bs O (omega arith))
    ]

-- ---- the first n bits of a byte

abbrev one-before : Bool → ℕ
one-before true = 1
one-before false = 0

abbrev mask_right : ℕ → ℕ → Bool
mask_right n j = eqb (65280 / 2 ^ n / 2 ^ (7 - j) % 2) (one-before (ltb j n))

mask : (n j : ℕ) → n ≤ 8 → j < 8 → 65280 / 2 ^ n / 2 ^ (7 - j) % 2 ≡ one-before (ltb j n)
mask n j h g =
    eqb→eq (65280 / 2 ^ n / 2 ^ (7 - j) % 2) (one-before (ltb j n)) (at (mask_right n) 8 (at (λ i. all (mask_right i) 8) 9 tt n (omega arith)) j g)

pub kept : (x n : ℕ) → x < 256 → n ≤ 8 → bit_and x (65280 / 2 ^ n) ≡ number 8 (take n (byte_bits x))
unfolding bit
kept x n h g =
    let m = 65280 / 2 ^ n in
    same_byte (bit_and x m) (number 8 (take n (byte_bits x))) (omega (arith, and_le_l x m)) (number_lt 8 (take n (byte_bits x)))
    (λ j l. and-digit x m j ∙ here j l ∙ sym (number-digit (take n (byte_bits x)) j l))
  where
    here : (j : ℕ) → j < 8 → together (digit x j) (digit (65280 / 2 ^ n) j) ≡ get_or (take n (byte_bits x)) j O
    here j l = elim (dec_lt j n) [
      | yes k ↦ ap (λ b. together (digit x j) (bit b)) (mask n j g l ∙ ap one-before (lt-ltb j n k)) ∙ sym (get_or-take n (byte_bits x) j O k ∙ byte_digit x j l)
      | no k ↦ ap (λ b. together (digit x j) (bit b)) (mask n j g l ∙ ap one-before (le-ltb j n (omega arith)))
          ∙ sym (get_or-eq_default (take n (byte_bits x)) O (omega (arith, length-take n (byte_bits x))))
    ]
