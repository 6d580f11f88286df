-- Eight bytes at once: the numbers that they write, least or most significant first, and their
-- ones.
use mathlib.Core.Path.{◌≡◌, refl, sym, ap, ◌∙◌}
use mathlib.Core.List.{List, [], ◌∷◌}
use Prim.Native.Nat.{ℕ, zero, suc, ◌+◌, ◌*◌}
use native.Mathlib.Omega.{arith}
use lib.Count.{ones_cat}
use lib.Count as count
use lib.ListN.{length, get_or}
use Rattle.meaning.specs.Strings.{Bit, O, I, ones}
use Rattle.meaning.specs.Bytes.{bits_from, number, value}
use Rattle.theory.specs.Layout.{AreBytes}
use Rattle.theory.proofs.Digits.{number_lt}
use Rattle.theory.proofs.Odd.{ones-append}
use Rattle.theory.proofs.Packing.{bits-length, bits-cut}
use Rattle.bits_word.specs.Little.{little}
use Rattle.std.specs.Int.{w64, from_le_bytes, from_be_bytes}
use Rattle.bits_word.proofs.Numbers.{number_of_byte, byte_more}

-- ---- the ones of a number

pub number-ones : (xs : List Bit) → count.ones (number (length xs) xs) ≡ ones xs
unfolding number value count.ones
number-ones [] = refl
number-ones (x ∷ xs) = ones_cat (length xs) (value x) (number (length xs) xs) (number_lt (length xs) xs) ∙ one x (number-ones xs)
  where
    one : (x : Bit) → count.ones (number (length xs) xs) ≡ ones xs → count.ones (value x) + count.ones (number (length xs) xs) ≡ ones (x ∷ xs)
    one O e = let z : count.ones 0 ≡ 0 = refl in omega arith
    one I e = let z : count.ones 1 ≡ 1 = refl in omega arith

module _ (bytes : List ℕ) where
  pub bits-ones : (p n : ℕ) → count.ones (number n (bits_from bytes p n)) ≡ ones (bits_from bytes p n)
  bits-ones p n = ap (λ k. count.ones (number k (bits_from bytes p n))) (sym (bits-length bytes p n)) ∙ number-ones (bits_from bytes p n)

  pub little-ones : (i n : ℕ) → count.ones (little bytes i n) ≡ ones (bits_from bytes (8 * i) (8 * n))
  unfolding little bits_from count.ones
  little-ones i zero = refl
  little-ones i (suc n) =
      let b = number 8 (bits_from bytes (8 * i) 8) in
      let cut : bits_from bytes (8 * i) (8 * suc n) ≡ _ = ap (bits_from bytes (8 * i)) (let e : 8 * suc n ≡ 8 + 8 * n = omega arith in e) ∙ bits-cut bytes 8 (8 * n) (8 * i) in
      omega (
        arith,
        ones_cat 8 (little bytes (suc i) n) b (number_lt 8 (bits_from bytes (8 * i) 8)),
        bits-ones (8 * i) 8,
        little-ones (suc i) n,
        ap (λ p. ones (bits_from bytes p (8 * n))) (let e : 8 * i + 8 ≡ 8 * suc i = omega arith in e),
        ap (λ l. ones l) cut ∙ ones-append (bits_from bytes (8 * i) 8) (bits_from bytes (8 * i + 8) (8 * n)),
      )

-- ---- bytes put together

module _ (bytes : List ℕ) (are : AreBytes bytes) (at : ℕ) where
  abbrev eight : List ℕ
  eight =
      get_or bytes at 0 ∷ get_or bytes (at + 1) 0 ∷ get_or bytes (at + 2) 0 ∷ get_or bytes (at + 3) 0
      ∷ get_or bytes (at + 4) 0 ∷ get_or bytes (at + 5) 0 ∷ get_or bytes (at + 6) 0 ∷ get_or bytes (at + 7) 0 ∷ []

  here : (k i : ℕ) → at + k ≡ i → number 8 (bits_from bytes (8 * i) 8) ≡ get_or bytes (at + k) 0
  here k i e = number_of_byte bytes are i ∙ ap (λ n. get_or bytes n 0) (sym e)

  pub little_eight : from_le_bytes w64 eight ≡ little bytes at 8
  unfolding little
  little_eight = omega (
    arith,
    number_of_byte bytes are at,
    here 1 (suc at) (omega arith),
    here 2 (suc (suc at)) (omega arith),
    here 3 (suc (suc (suc at))) (omega arith),
    here 4 (suc (suc (suc (suc at)))) (omega arith),
    here 5 (suc (suc (suc (suc (suc at))))) (omega arith),
    here 6 (suc (suc (suc (suc (suc (suc at)))))) (omega arith),
    here 7 (suc (suc (suc (suc (suc (suc (suc at))))))) (omega arith),
  )

  pub number_eight : from_be_bytes w64 eight ≡ number 64 (bits_from bytes (8 * at) 64)
  number_eight = omega (
    arith,
    number_of_byte bytes are at,
    byte_more bytes are at 1,
    byte_more bytes are at 2,
    byte_more bytes are at 3,
    byte_more bytes are at 4,
    byte_more bytes are at 5,
    byte_more bytes are at 6,
    byte_more bytes are at 7,
  )
