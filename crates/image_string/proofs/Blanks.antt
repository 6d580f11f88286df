-- Bits that are zero: the rest of a byte, and whole bytes; what the blocks of a string keep.
use mathlib.Core.Path.{◌≡◌, refl, sym, ap, ap₂, ◌∙◌}
use mathlib.Core.Bool.{Bool}
use mathlib.Core.List.{List, [], ◌∷◌}
use Prim.Native.Nat.{ℕ, zero, suc, ◌+◌, ◌-◌, ◌*◌, ◌/◌, ◌%◌, ◌^◌, ◌≤◌, ◌<◌}
use native.Mathlib.Nat.{zero-div}
use native.Mathlib.Decide.{dec_lt}
use native.Mathlib.Omega.{arith}
use borrow.Author.Tests.{le-ltb, ltb-false}
use lib.Dec.{T, eqb, ltb, eqb→eq, ltb→lt}
use lib.ListN.{get_or}
use Rattle.meaning.specs.Strings.{O, ones}
use Rattle.meaning.specs.Bytes.{bit, bit_at, bits_from, bytes_for, leftover}
use Rattle.meaning.specs.Image.{string_blocks, string_in}
use Rattle.theory.specs.Layout.{bit_place, AreBytes}
use Rattle.theory.specs.Stages.{CountsAndPadding}
use Rattle.theory.proofs.Digits.{byte_lt, same_bits_lem}
use Rattle.theory.proofs.Packing.{bits_of_byte, leftover-bits, bits-leftover}
use Rattle.theory.proofs.TreeImages.{length-string_in}
use Rattle.bits_byte.proofs.Table.{all, at}
use Rattle.image_string.specs.Parts.{ZeroBytes, Counted, Unused}
use Rattle.theory.proofs.InBlocks.{string_in-take}

-- ---- whole bytes

zero_bit : (bytes : List ℕ) (p : ℕ) → get_or bytes (p / 8) 0 ≡ 0 → bit_at bytes p ≡ O
unfolding bit_at bit
zero_bit bytes p e = ap (λ x. bit (x / 2 ^ (7 - p % 8) % 2)) e ∙ ap (λ x. bit (x % 2)) (zero-div (2 ^ (7 - p % 8)))

bit_in_byte : (bytes : List ℕ) (i r : ℕ) → r < 8 → bit_at bytes (8 * i + r) ≡ bit_at (get_or bytes i 0 ∷ []) r
unfolding bits_from
bit_in_byte bytes i r h = ap (λ l. get_or l 0 O) (bits_of_byte bytes i r 1 (omega arith))

one_byte : (x : ℕ) → x < 256 → AreBytes (x ∷ [])
one_byte x h zero g = h
one_byte x h (suc i) g = absurd (omega arith)

byte_zero : (bytes : List ℕ) → AreBytes bytes → (i : ℕ) → ((r : ℕ) → r < 8 → bit_at bytes (8 * i + r) ≡ O) → get_or bytes i 0 ≡ 0
byte_zero bytes are i z =
    let x = get_or bytes i 0 in
    ap (λ l. get_or l 0 0)
    (same_bits_lem (x ∷ []) (0 ∷ []) (one_byte x (byte_lt bytes are i)) (one_byte 0 (omega arith)) refl
    (λ p h. sym (bit_in_byte bytes i p (omega arith)) ∙ z p (omega arith)
    ∙ sym (zero_bit (0 ∷ []) p (ap (λ q. get_or (0 ∷ []) q 0) (let e : p / 8 ≡ 0 = omega arith in e)))))

pub blank_bits : (bytes : List ℕ) (at k : ℕ) → ZeroBytes bytes (at + k) (at + 500) → Unused bytes at (8 * k)
blank_bits bytes at k z i h g = zero_bit bytes (8 * at + i) (z ((8 * at + i) / 8) (omega arith) (omega arith))

pub blank_bytes : (bytes : List ℕ) → AreBytes bytes → (at k : ℕ) → Unused bytes at (8 * k) → ZeroBytes bytes (at + k) (at + 500)
blank_bytes bytes are at k u i h g =
    byte_zero bytes are i
    (λ r l. ap (bit_at bytes) (let e : 8 * i + r ≡ 8 * at + (8 * (i - at) + r) = omega arith in e) ∙ u (8 * (i - at) + r) (omega arith) (omega arith))

-- ---- the rest of a byte

-- two numbers are zero together
abbrev agree : ℕ → ℕ → Bool
agree zero b = eqb b 0
agree (suc a) b = ltb 0 b

agree-there : (a b : ℕ) → T (agree a b) → a ≡ 0 → b ≡ 0
agree-there zero b t e = eqb→eq b 0 t
agree-there (suc a) b t e = absurd (omega arith)

agree_back : (a b : ℕ) → T (agree a b) → b ≡ 0 → a ≡ 0
agree_back zero b t e = refl
agree_back (suc a) b t e = absurd (omega (arith, ltb→lt 0 b t))

-- the bits of x after its first r, shifted to the front and counted
cleared : ℕ → ℕ → Bool
unfolding bits_from bit_at bit
cleared x r = agree (x * 2 ^ r % 256) (ones (bits_from (x ∷ []) r (8 - r)))

clear_test : (x r : ℕ) → x < 256 → r < 8 → T (agree (x * 2 ^ r % 256) (ones (bits_from (x ∷ []) r (8 - r))))
unfolding cleared bits_from bit_at bit
clear_test x r h g = at (cleared x) 8 (at (λ y. all (cleared y) 8) 256 tt x h) r g

module _ (bytes : List ℕ) (are : AreBytes bytes) (at used : ℕ) where
  leftover_is : (used % 8 ≡ 0 → ⊥) → leftover bytes (8 * at + used) ≡ ltb 0 (ones (bits_from (get_or bytes (at + used / 8) 0 ∷ []) (used % 8) (8 - used % 8)))
  unfolding leftover
  leftover_is d =
      ap₂ (λ p n. ltb 0 (ones (bits_from bytes p n)))
      (let e : 8 * at + used ≡ 8 * (at + used / 8) + used % 8 = omega arith in e)
      (let e : 8 * bytes_for (8 * at + used) - (8 * at + used) ≡ 8 - used % 8 = omega arith in e)
      ∙ ap (λ l. ltb 0 (ones l)) (bits_of_byte bytes (at + used / 8) (used % 8) (8 - used % 8) (omega arith))

  rest-bits : (used % 8 ≡ 0 → ⊥) → get_or bytes (at + used / 8) 0 * 2 ^ (used % 8) % 256 ≡ 0
      → (i : ℕ) → used ≤ i → i < 8 * (used / 8 + 1) → bit_at bytes (8 * at + i) ≡ O
  rest-bits d e i h g =
      let x = get_or bytes (at + used / 8) 0 in
      let n = ones (bits_from (x ∷ []) (used % 8) (8 - used % 8)) in
      let z : n ≡ 0 = agree-there _ n (clear_test x (used % 8) (byte_lt bytes are (at + used / 8)) (omega arith)) e in
      leftover-bits bytes (8 * at + used) (leftover_is d ∙ le-ltb 0 n (omega arith)) (8 * at + i) (omega arith) (omega arith)

  -- a rest that is zero leaves nothing when the byte is shifted
  pub rest-shifted : (used % 8 ≡ 0 → ⊥) → used ≤ 4000 → Unused bytes at used → get_or bytes (at + used / 8) 0 * 2 ^ (used % 8) % 256 ≡ 0
  rest-shifted d m u =
      let x = get_or bytes (at + used / 8) 0 in
      let n = ones (bits_from (x ∷ []) (used % 8) (8 - used % 8)) in
      let e = bits-leftover bytes (8 * at + used) (λ p h g. ap (bit_at bytes) (let q : p ≡ 8 * at + (p - 8 * at) = omega arith in q) ∙ u (p - 8 * at) (omega arith) (omega arith)) in
      agree_back _ n (clear_test x (used % 8) (byte_lt bytes are (at + used / 8)) (omega arith)) (omega (arith, ltb-false 0 n (sym (leftover_is d) ∙ e)))

  -- the rest of a byte, then whole bytes
  pub rest_blank : (used % 8 ≡ 0 → ⊥) → get_or bytes (at + used / 8) 0 * 2 ^ (used % 8) % 256 ≡ 0 → ZeroBytes bytes (at + used / 8 + 1) (at + 500) → Unused bytes at used
  rest_blank d e z i h g = elim (dec_lt i (8 * (used / 8 + 1))) [
    | yes l ↦ rest-bits d e i h l
    | no l ↦ blank_bits bytes at (used / 8 + 1) (λ k a b. z k (omega arith) b) i (omega arith) g
  ]

  pub blank_rest : Unused bytes at used → ZeroBytes bytes (at + used / 8 + 1) (at + 500)
  blank_rest u i h g = blank_bytes bytes are at (used / 8 + 1) (λ k a b. u k (omega arith) b) i (omega arith) g

-- ---- what the blocks of a string keep

module _ (bytes : List ℕ) (first n : ℕ) (some : 1 ≤ n) where
  pub kept : Counted bytes first n → Unused bytes (512 * (first + (n - 1) / 4000) + 4) (n - 4000 * ((n - 1) / 4000)) → CountsAndPadding bytes first (string_in bytes first 0 n)
  kept c u = record {
    counts = λ j h. let l = length-string_in bytes first 0 n in c j (omega arith) ∙ ap (λ r. ones r) (sym (string_in-take bytes first (4000 * j) n (omega arith)));
    unused = λ i h g. let l = length-string_in bytes first 0 n in
        ap (bit_at bytes) (place i (omega arith) (omega arith)) ∙ u (i % 4000) (omega arith) (omega arith);
  }
    where
      place : (i : ℕ) → n ≤ i → i < 4000 * string_blocks n → bit_place first i ≡ 8 * (512 * (first + (n - 1) / 4000) + 4) + i % 4000
      place i h g = let e : i / 4000 ≡ (n - 1) / 4000 = omega arith in ap (λ j. 8 * (512 * (first + j) + 4) + i % 4000) e

  pub kept-counts : CountsAndPadding bytes first (string_in bytes first 0 n) → Counted bytes first n
  kept-counts k j h =
      let l = length-string_in bytes first 0 n in
      k.counts j (omega arith) ∙ ap (λ r. ones r) (string_in-take bytes first (4000 * j) n (omega arith))

  pub kept_unused : CountsAndPadding bytes first (string_in bytes first 0 n) → Unused bytes (512 * (first + (n - 1) / 4000) + 4) (n - 4000 * ((n - 1) / 4000))
  kept_unused k i h g =
      let l = length-string_in bytes first 0 n in
      let q = 4000 * ((n - 1) / 4000) + i in
      ap (bit_at bytes) (let e : 8 * (512 * (first + (n - 1) / 4000) + 4) + i ≡ bit_place first q = omega arith in e)
      ∙ k.unused q (omega arith) (omega arith)
