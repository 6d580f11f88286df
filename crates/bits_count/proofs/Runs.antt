-- Ones counted in a run of bits: whole bytes from byte `at` on, and the first bits of the byte
-- after them.
use mathlib.Core.Path.{◌≡◌, refl, sym, ap, ◌∙◌}
use mathlib.Core.List.{List, [], ◌∷◌}
use Prim.Native.Nat.{ℕ, ◌+◌, ◌-◌, ◌*◌, ◌/◌, ◌%◌, ◌≤◌}
use native.Mathlib.Omega.{arith}
use lib.ListN.{get_or, take}
use lib.Seq.{take_at}
use Rattle.meaning.specs.Strings.{Bit, O, I, ones}
use Rattle.meaning.specs.Bytes.{bit_at, bits_from, value}
use Rattle.theory.proofs.Odd.{ones-append}
use Rattle.theory.proofs.Payloads.{ones-le}
use Rattle.theory.proofs.Packing.{bits-length, bits-cut, bits_of_byte}
use Rattle.bits_byte.specs.Byte.{byte_bits}

pub bits-ones-le : (bytes : List ℕ) (p n : ℕ) → ones (bits_from bytes p n) ≤ n
bits-ones-le bytes p n = omega (arith, ones-le (bits_from bytes p n), bits-length bytes p n)

pub no_bits : (bytes : List ℕ) (p : ℕ) → 0 ≡ ones (bits_from bytes p 0)
unfolding bits_from
no_bits bytes p = refl

-- the first k bits, and m more
pub ones_cut : (bytes : List ℕ) (p k m : ℕ) → ones (bits_from bytes p (k + m)) ≡ ones (bits_from bytes p k) + ones (bits_from bytes (p + k) m)
ones_cut bytes p k m = ap (λ l. ones l) (bits-cut bytes k m p) ∙ ones-append (bits_from bytes p k) (bits_from bytes (p + k) m)

pub ones_of_bit : (x : Bit) → ones (x ∷ []) ≡ value x
unfolding value
ones_of_bit O = refl
ones_of_bit I = refl

-- one bit more
pub bits-next : (bytes : List ℕ) (q i x : ℕ) → x ≡ value (bit_at bytes (q + i)) → ones (bits_from bytes q (i + 1)) ≡ ones (bits_from bytes q i) + x
unfolding bits_from
bits-next bytes q i x e = ones_cut bytes q i 1 ∙ ap (λ y. ones (bits_from bytes q i) + y) (ones_of_bit (bit_at bytes (q + i)) ∙ sym e)

pub bits_mono : (bytes : List ℕ) (q i n : ℕ) → i ≤ n → ones (bits_from bytes q i) ≤ ones (bits_from bytes q n)
bits_mono bytes q i n h =
    let k = n - i in
    omega (arith, ones_cut bytes q i k, ap (λ m. ones (bits_from bytes q m)) (let e : i + k ≡ n = omega arith in e))

-- the first n of more bits
pub bits-take : (bytes : List ℕ) (p n m : ℕ) → n ≤ m → take n (bits_from bytes p m) ≡ bits_from bytes p n
bits-take bytes p n m h =
    let k = m - n in
    ap (λ l. take n (bits_from bytes p l)) (let e : m ≡ n + k = omega arith in e)
    ∙ ap (take n) (bits-cut bytes n k p)
    ∙ take_at (bits_from bytes p n) (bits_from bytes (p + n) k) n (bits-length bytes p n)

-- a byte
pub byte_run : (bytes : List ℕ) (i r : ℕ) → r ≤ 8 → ones (take r (byte_bits (get_or bytes i 0))) ≡ ones (bits_from bytes (8 * i) r)
byte_run bytes i r h =
    let x = get_or bytes i 0 in
    ap (λ l. ones l) (bits-take (x ∷ []) 0 r 8 h ∙ sym (bits_of_byte bytes i 0 r (omega arith)))
    ∙ ap (λ p. ones (bits_from bytes p r)) (let e : 8 * i + 0 ≡ 8 * i = omega arith in e)

pub whole_byte_run : (bytes : List ℕ) (i : ℕ) → ones (byte_bits (get_or bytes i 0)) ≡ ones (bits_from bytes (8 * i) 8)
whole_byte_run bytes i = ap (λ l. ones l) (sym (bits-take (get_or bytes i 0 ∷ []) 0 8 8 (omega arith))) ∙ byte_run bytes i 8 (omega arith)

-- after the first i bytes, q bits more
pub ones-after : (bytes : List ℕ) (at i q : ℕ) → ones (bits_from bytes (8 * at) (8 * i + q)) ≡ ones (bits_from bytes (8 * at) (8 * i)) + ones (bits_from bytes (8 * (at + i)) q)
ones-after bytes at i q =
    ones_cut bytes (8 * at) (8 * i) q
    ∙ ap (λ p. ones (bits_from bytes (8 * at) (8 * i)) + ones (bits_from bytes p q)) (let e : 8 * at + 8 * i ≡ 8 * (at + i) = omega arith in e)

module _ (bytes : List ℕ) (at i : ℕ) where
  -- eight bytes more
  pub eight_more : ones (bits_from bytes (8 * at) (8 * i)) + ones (bits_from bytes (8 * (at + i)) 64) ≡ ones (bits_from bytes (8 * at) (8 * (i + 8)))
  eight_more = sym (ones-after bytes at i 64) ∙ ap (λ n. ones (bits_from bytes (8 * at) n)) (let e : 8 * i + 64 ≡ 8 * (i + 8) = omega arith in e)

  -- one byte more
  pub one_more : ones (bits_from bytes (8 * at) (8 * i)) + ones (byte_bits (get_or bytes (at + i) 0)) ≡ ones (bits_from bytes (8 * at) (8 * (i + 1)))
  one_more =
      ap (λ k. ones (bits_from bytes (8 * at) (8 * i)) + k) (whole_byte_run bytes (at + i))
      ∙ sym (ones-after bytes at i 8)
      ∙ ap (λ n. ones (bits_from bytes (8 * at) n)) (let e : 8 * i + 8 ≡ 8 * (i + 1) = omega arith in e)

pub front-ones-le : (x r : ℕ) → r ≤ 8 → ones (take r (byte_bits x)) ≤ 8
front-ones-le x r h = omega (arith, ap (λ l. ones l) (bits-take (x ∷ []) 0 r 8 h), bits-ones-le (x ∷ []) 0 r)

-- the last bits, of which there are fewer than eight
pub last_more : (bytes : List ℕ) (at n : ℕ)
    → ones (bits_from bytes (8 * at) (8 * (n / 8))) + ones (take (n % 8) (byte_bits (get_or bytes (at + n / 8) 0))) ≡ ones (bits_from bytes (8 * at) n)
last_more bytes at n =
    ap (λ k. ones (bits_from bytes (8 * at) (8 * (n / 8))) + k) (byte_run bytes (at + n / 8) (n % 8) (omega arith))
    ∙ sym (ones-after bytes at (n / 8) (n % 8))
    ∙ ap (λ k. ones (bits_from bytes (8 * at) k)) (let e : 8 * (n / 8) + n % 8 ≡ n = omega arith in e)
