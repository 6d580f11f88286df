-- The ones of the number that bits write: in the first of them, and in one number without another.
use mathlib.Core.Path.{◌≡◌, refl, sym, ap, ap₂, ◌∙◌}
use mathlib.Core.List.{List, [], ◌∷◌, ◌++◌}
use Prim.Native.Nat.{ℕ, zero, suc, ◌+◌, ◌-◌, ◌*◌, ◌/◌, ◌%◌, ◌^◌, ◌<◌, ◌≤◌}
use native.Mathlib.Omega.{arith}
use lib.Bits.{bit_and, and_block, and_le_l}
use lib.Count.{ones_cat}
use lib.Count as count
use lib.ListN.{length}
use lib.Pow.{shr-shr, high}
use Rattle.meaning.specs.Strings.{Bit, O, I, ones}
use Rattle.meaning.specs.Bytes.{bit_at, bits_from, number, value}
use Rattle.theory.proofs.Digits.{number_lt}
use Rattle.theory.proofs.Payloads.{ones-le}
use Rattle.theory.proofs.Odd.{ones-append}
use Rattle.theory.proofs.Packing.{bits-length, bits-cut}
use Rattle.bits_count.specs.Without.{alone, without}
use Rattle.bits_word.specs.Little.{little}
use Rattle.bits_word.proofs.EightBytes.{number-ones, bits-ones}
use Rattle.bits_word.proofs.Numbers.{number_cut}

-- what x has and y has, and what x has without y, are all of x
number-without : (xs ys : List Bit) → length xs ≡ length ys
    → number (length xs) xs ≡ bit_and (number (length xs) xs) (number (length xs) ys) + number (length xs) (without xs ys)
unfolding number value
number-without [] ys h = refl
number-without (x ∷ xs) [] h = absurd (omega arith)
number-without (x ∷ xs) (y ∷ ys) h =
    let block = and_block (length xs) (value x) (value y) (number (length xs) xs) (number (length xs) ys) (number_lt (length xs) xs) (number_lt (length xs) ys) in
    bit x y (2 ^ length xs) (number (length xs) xs) (number (length xs) ys) (number (length xs) (without xs ys)) block (number-without xs ys (omega arith))
  where
    bit : (x y : Bit) (p u v w : ℕ) → bit_and (value x * p + u) (value y * p + v) ≡ bit_and (value x) (value y) * p + bit_and u v → u ≡ bit_and u v + w
        → value x * p + u ≡ bit_and (value x * p + u) (value y * p + v) + (value (alone x y) * p + w)
    bit O O p u v w b e = omega arith
    bit O I p u v w b e = omega arith
    bit I O p u v w b e = omega arith
    bit I I p u v w b e = omega arith

length_without : (xs ys : List Bit) → length xs ≡ length ys → length (without xs ys) ≡ length xs
length_without [] ys h = refl
length_without (x ∷ xs) [] h = absurd (omega arith)
length_without (x ∷ xs) (y ∷ ys) h = ap suc (length_without xs ys (omega arith))

without-append : (xs ys us vs : List Bit) → length xs ≡ length ys → without (xs ++ us) (ys ++ vs) ≡ without xs ys ++ without us vs
without-append [] [] us vs h = refl
without-append [] (y ∷ ys) us vs h = absurd (omega arith)
without-append (x ∷ xs) [] us vs h = absurd (omega arith)
without-append (x ∷ xs) (y ∷ ys) us vs h = ap (λ l. alone x y ∷ l) (without-append xs ys us vs (omega arith))

-- ---- numbers of the bits in bytes

module _ (bytes : List ℕ) where
  pub front-ones : (p n w : ℕ) → n < 64 → w ≡ number 64 (bits_from bytes p 64) → count.ones (w / 2 ^ 1 / 2 ^ (63 - n)) ≡ ones (bits_from bytes p n)
  front-ones p n w h e =
      let k = 64 - n in
      ap count.ones (
      shr-shr w 1 (63 - n)
      ∙ ap₂ (λ x j. x / 2 ^ j) (e ∙ ap (λ j. number j (bits_from bytes p j)) (let f : 64 ≡ n + k = omega arith in f)) (let f : 1 + (63 - n) ≡ k = omega arith in f)
      ∙ ap (λ x. x / 2 ^ k) (number_cut bytes p n k)
      ∙ high (number n (bits_from bytes p n)) k (number_lt k (bits_from bytes (p + n) k))
      )
      ∙ bits-ones bytes p n

  -- up to bit p, and that bit
  pub ending_ones : (q p w : ℕ) → p < 64 → w ≡ number 64 (bits_from bytes q 64)
      → (w / 2 ^ (63 - p) ≡ number (p + 1) (bits_from bytes q (p + 1))) × (w / 2 ^ (63 - p) % 2 ≡ value (bit_at bytes (q + p)))
      × (count.ones (w / 2 ^ (63 - p)) ≡ ones (bits_from bytes q (p + 1)))
  unfolding bits_from number value
  ending_ones q p w h e =
      let k = 63 - p in
      let front : w / 2 ^ k ≡ number (p + 1) (bits_from bytes q (p + 1)) =
      ap (λ x. x / 2 ^ k) (e ∙ ap (λ j. number j (bits_from bytes q j)) (let f : 64 ≡ p + 1 + k = omega arith in f) ∙ number_cut bytes q (p + 1) k)
      ∙ high (number (p + 1) (bits_from bytes q (p + 1))) k (number_lt k (bits_from bytes (q + (p + 1)) k)) in
      (front, ap (λ x. x % 2) (front ∙ number_cut bytes q p 1) ∙ last (number p (bits_from bytes q p)) (bit_at bytes (q + p)), ap count.ones front ∙ bits-ones bytes q (p + 1))
    where
      last : (a : ℕ) (x : Bit) → (a * 2 ^ 1 + (value x * 2 ^ 0 + 0)) % 2 ≡ value x
      last a O = omega arith
      last a I = omega arith

  -- at most all of them
  pub ending_le : (q p r : ℕ) → p < 64 → r ≡ value (bit_at bytes (q + p)) * ones (bits_from bytes q (p + 1)) → r ≤ 64
  unfolding value
  ending_le q p r h e = go (bit_at bytes (q + p)) e
    where
      go : (x : Bit) → r ≡ value x * ones (bits_from bytes q (p + 1)) → r ≤ 64
      go O f = omega arith
      go I f = omega (arith, ones-le (bits_from bytes q (p + 1)), bits-length bytes q (p + 1))

  -- the bytes of two words, one pair after the other
  byte_without : (p q : ℕ) → let r = number 8 (bits_from bytes p 8) in let s = number 8 (bits_from bytes q 8) in
      count.ones (r - bit_and r s) ≡ ones (without (bits_from bytes p 8) (bits_from bytes q 8))
  byte_without p q =
      let xs = bits_from bytes p 8 in
      let ys = bits_from bytes q 8 in
      let l : length xs ≡ 8 = bits-length bytes p 8 in
      let m : length xs ≡ length ys = l ∙ sym (bits-length bytes q 8) in
      let e : number 8 xs ≡ bit_and (number 8 xs) (number 8 ys) + number 8 (without xs ys) = rw l at (number-without xs ys m) in
      ap count.ones (let f : number 8 xs - bit_and (number 8 xs) (number 8 ys) ≡ number 8 (without xs ys) = omega arith in f)
      ∙ ap (λ k. count.ones (number k (without xs ys))) (sym (length_without xs ys m ∙ l))
      ∙ number-ones (without xs ys)

  bytes_cut : (i n : ℕ) → bits_from bytes (8 * i) (8 * suc n) ≡ bits_from bytes (8 * i) 8 ++ bits_from bytes (8 * suc i) (8 * n)
  bytes_cut i n =
      ap (bits_from bytes (8 * i)) (let e : 8 * suc n ≡ 8 + 8 * n = omega arith in e)
      ∙ bits-cut bytes 8 (8 * n) (8 * i)
      ∙ ap (λ p. bits_from bytes (8 * i) 8 ++ bits_from bytes p (8 * n)) (let e : 8 * i + 8 ≡ 8 * suc i = omega arith in e)

  little-without : (i j n : ℕ) → count.ones (little bytes i n - bit_and (little bytes i n) (little bytes j n)) ≡ ones (without (bits_from bytes (8 * i) (8 * n)) (bits_from bytes (8 * j) (8 * n)))
  unfolding little bits_from count.ones
  little-without i j zero = refl
  little-without i j (suc n) =
      let a = little bytes (suc i) n in
      let b = little bytes (suc j) n in
      let r = number 8 (bits_from bytes (8 * i) 8) in
      let s = number 8 (bits_from bytes (8 * j) 8) in
      let lr = number_lt 8 (bits_from bytes (8 * i) 8) in
      let split : a * 256 + r - bit_and (a * 256 + r) (b * 256 + s) ≡ (a - bit_and a b) * 256 + (r - bit_and r s) =
      omega (arith, and_block 8 a b r s lr (number_lt 8 (bits_from bytes (8 * j) 8)), and_le_l a b, and_le_l r s) in
      ap count.ones split
      ∙ ones_cat 8 (a - bit_and a b) (r - bit_and r s) (omega arith)
      ∙ omega (
        arith,
        little-without (suc i) (suc j) n,
        byte_without (8 * i) (8 * j),
        ones-append (without (bits_from bytes (8 * i) 8) (bits_from bytes (8 * j) 8)) (without (bits_from bytes (8 * suc i) (8 * n)) (bits_from bytes (8 * suc j) (8 * n))),
      )
      ∙ ap (λ l. ones l) (sym (
      ap₂ without (bytes_cut i n) (bytes_cut j n)
      ∙ without-append (bits_from bytes (8 * i) 8) (bits_from bytes (8 * j) 8) (bits_from bytes (8 * suc i) (8 * n)) (bits_from bytes (8 * suc j) (8 * n))
      (bits-length bytes (8 * i) 8 ∙ sym (bits-length bytes (8 * j) 8))))

  pub without-ones : (i j v w : ℕ) → v ≡ little bytes i 8 → w ≡ little bytes j 8
      → count.ones (v - bit_and v w) ≡ ones (without (bits_from bytes (8 * i) 64) (bits_from bytes (8 * j) 64))
  without-ones i j v w e f = ap₂ (λ x y. count.ones (x - bit_and x y)) e f ∙ little-without i j 8
