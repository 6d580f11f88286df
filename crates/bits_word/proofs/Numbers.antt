-- Bits as the number that they write, most significant first: bytes put together.
use mathlib.Core.Path.{◌≡◌, sym, ap, ap₂, ◌∙◌}
use mathlib.Core.List.{List, [], ◌∷◌, ◌++◌}
use Prim.Native.Nat.{ℕ, suc, ◌+◌, ◌*◌, ◌^◌}
use native.Mathlib.Nat.{mul_assoc, add-mul}
use native.Mathlib.Omega.{arith}
use lib.ListN.{length, get_or}
use lib.Pow.{pow-add}
use Rattle.meaning.specs.Strings.{Bit}
use Rattle.meaning.specs.Bytes.{bits_from, number, value}
use Rattle.theory.specs.Layout.{AreBytes}
use Rattle.theory.proofs.Digits.{byte_lt}
use Rattle.theory.proofs.Packing.{bits-length, bits-cut, bits_of_byte}
use Rattle.bits_byte.proofs.Byte.{byte_number}

-- one number after another
pub number_append : (m : ℕ) (xs ys : List Bit) → number (length xs + m) (xs ++ ys) ≡ number (length xs) xs * 2 ^ m + number m ys
unfolding number
number_append m [] ys = ap (λ k. number k ys) (let e : 0 + m ≡ m = omega arith in e) ∙ (let e : number m ys ≡ 0 * 2 ^ m + number m ys = omega arith in e)
number_append m (x ∷ xs) ys =
    ap (λ k. number k (x ∷ xs ++ ys)) (let e : suc (length xs) + m ≡ suc (length xs + m) = omega arith in e)
    ∙ ap₂ (λ p q. value x * p + q) (pow-add 2 (length xs) m) (number_append m xs ys)
    ∙ distributes (value x) (2 ^ length xs) (2 ^ m) (number (length xs) xs) (number m ys)
  where
    distributes : (v a b c d : ℕ) → v * (a * b) + (c * b + d) ≡ (v * a + c) * b + d
    distributes v a b c d =
        let e = mul_assoc v a b in
        let f = add-mul (v * a) c b in
        omega arith

module _ (bytes : List ℕ) where
  -- the first k bits, and m more
  pub number_cut : (p k m : ℕ) → number (k + m) (bits_from bytes p (k + m)) ≡ number k (bits_from bytes p k) * 2 ^ m + number m (bits_from bytes (p + k) m)
  number_cut p k m =
      let l = bits-length bytes p k in
      ap (number (k + m)) (bits-cut bytes k m p)
      ∙ ap (λ n. number (n + m) (bits_from bytes p k ++ bits_from bytes (p + k) m)) (sym l)
      ∙ number_append m (bits_from bytes p k) (bits_from bytes (p + k) m)
      ∙ ap (λ n. number n (bits_from bytes p k) * 2 ^ m + number m (bits_from bytes (p + k) m)) l

  module _ (are : AreBytes bytes) where
    pub number_of_byte : (i : ℕ) → number 8 (bits_from bytes (8 * i) 8) ≡ get_or bytes i 0
    number_of_byte i =
        ap (λ p. number 8 (bits_from bytes p 8)) (let e : 8 * i ≡ 8 * i + 0 = omega arith in e)
        ∙ ap (number 8) (bits_of_byte bytes i 0 8 (omega arith))
        ∙ byte_number (get_or bytes i 0) (byte_lt bytes are i)

    -- one byte more
    pub byte_more : (at i : ℕ) → number (8 * i + 8) (bits_from bytes (8 * at) (8 * i + 8)) ≡ number (8 * i) (bits_from bytes (8 * at) (8 * i)) * 256 + get_or bytes (at + i) 0
    byte_more at i =
        number_cut (8 * at) (8 * i) 8
        ∙ ap (λ p. number (8 * i) (bits_from bytes (8 * at) (8 * i)) * 256 + number 8 (bits_from bytes p 8)) (let e : 8 * at + 8 * i ≡ 8 * (at + i) = omega arith in e)
        ∙ ap (λ x. number (8 * i) (bits_from bytes (8 * at) (8 * i)) * 256 + x) (number_of_byte (at + i))
