-- The bits of a word that is stored are those of its bytes.
use mathlib.Core.Path.{◌≡◌, refl, sym, ap, ap₂, ◌∙◌}
use mathlib.Core.List.{List, ◌++◌}
use Prim.Native.Nat.{ℕ, zero, suc, ◌+◌, ◌*◌, ◌/◌, ◌%◌, ◌^◌, ◌<◌, ◌≤◌}
use native.Mathlib.Nat.{lt_of_lt_of_le}
use native.Mathlib.Omega.{arith}
use lib.Pow.{pow-add, pow_mono}
use Rattle.meaning.specs.Strings.{ones}
use Rattle.meaning.specs.Bytes.{bits_from, number}
use Rattle.theory.specs.Layout.{AreBytes}
use Rattle.theory.proofs.Digits.{number_lt}
use Rattle.theory.proofs.Packing.{bits-cut, bits_of_byte}
use Rattle.bits_byte.specs.Byte.{byte_bits}
use Rattle.bits_word.specs.Little.{little}
use Rattle.bits_word.proofs.Numbers.{number_of_byte}
use Rattle.bits_lanes.specs.Lanes.{word_bits}
use Rattle.bits_lanes.proofs.Counts.{word_ones}

module _ (b : List ℕ) (are : AreBytes b) where
  its_bits : (i : ℕ) → byte_bits (number 8 (bits_from b (8 * i) 8)) ≡ bits_from b (8 * i) 8
  its_bits i =
      ap byte_bits (number_of_byte b are i)
      ∙ sym (ap (λ q. bits_from b q 8) (let e : 8 * i ≡ 8 * i + 0 = omega arith in e) ∙ bits_of_byte b i 0 8 (omega arith))

  pub stored-bits : (k m i : ℕ) → k ≤ m → word_bits (little b i m) k ≡ bits_from b (8 * i) (8 * k)
  unfolding word_bits little bits_from
  stored-bits zero m i l = refl
  stored-bits (suc k) zero i l = absurd (omega arith)
  stored-bits (suc k) (suc m) i l =
      let x = number 8 (bits_from b (8 * i) 8) in
      let others = little b (suc i) m in
      let small = number_lt 8 (bits_from b (8 * i) 8) in
      ap₂ (λ u v. byte_bits u ++ word_bits v k) (let e : (others * 256 + x) % 256 ≡ x = omega arith in e) (let e : (others * 256 + x) / 256 ≡ others = omega arith in e)
      ∙ ap₂ ◌++◌ (its_bits i) (stored-bits k m (suc i) (omega arith) ∙ ap (λ p. bits_from b p (8 * k)) (let e : 8 * suc i ≡ 8 * i + 8 = omega arith in e))
      ∙ sym (bits-cut b 8 (8 * k) (8 * i))
      ∙ ap (bits_from b (8 * i)) (let e : 8 + 8 * k ≡ 8 * suc k = omega arith in e)

pub little-lt : (b : List ℕ) (i n : ℕ) → little b i n < 2 ^ (8 * n)
unfolding little
little-lt b i zero = omega arith
little-lt b i (suc n) =
    let p = ap (λ k. 2 ^ k) (let e : 8 * suc n ≡ 8 * n + 8 = omega arith in e) ∙ pow-add 2 (8 * n) 8 in
    omega (arith, p, little-lt b (suc i) n, number_lt 8 (bits_from b (8 * i) 8))

-- zeros after the bytes have no ones
pub padded-ones : (b : List ℕ) (i n m : ℕ) → n ≤ m → ones (word_bits (little b i n) m) ≡ ones (word_bits (little b i n) n)
padded-ones b i n m h =
    let l = little-lt b i n in
    sym (word_ones m (little b i n) (lt_of_lt_of_le l (pow_mono {i = 8 * n} {j = 8 * m} (omega arith)))) ∙ word_ones n (little b i n) l
