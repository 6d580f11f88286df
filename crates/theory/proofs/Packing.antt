-- Bits in bytes and back: the bytes of given bits are one list, and reading them gives the bits.
use mathlib.Core.Path.{◌≡◌, refl, sym, ap, ap₂, ◌∙◌}
use mathlib.Core.Bool.{false}
use mathlib.Core.List.{List, [], ◌∷◌, ◌++◌}
use Prim.Native.Nat.{ℕ, zero, suc, ◌+◌, ◌-◌, ◌*◌, ◌/◌, ◌%◌, ◌^◌, ◌≤◌, ◌<◌}
use native.Mathlib.Decide.{dec_lt}
use native.Mathlib.Numerals.{add-one}
use native.Mathlib.Omega.{arith}
use borrow.Author.Tests.{ltb-false, le-ltb}
use lib.ListN.{length, get_or, drop, get_or-eq_default}
use lib.Seq.{ext_get_or, drop_at}
use Rattle.meaning.specs.Strings.{Bit, O, I, ones}
use Rattle.meaning.specs.Bytes.{bit, bit_at, bits_from, bytes_for, leftover, packed}
use Rattle.theory.specs.Layout.{AreBytes}
use Rattle.theory.proofs.Bits.{I≢O}
use Rattle.theory.proofs.Digits.{length-bytes_of, bytes_of_lt, bytes_of-bit, same_bits_lem}

-- ---- reading

pub bits-length : (bytes : List ℕ) (p n : ℕ) → length (bits_from bytes p n) ≡ n
unfolding bits_from
bits-length bytes p zero = refl
bits-length bytes p (suc n) = ap suc (bits-length bytes (suc p) n)

pub bits_at : (bytes : List ℕ) (p n i : ℕ) → i < n → get_or (bits_from bytes p n) i O ≡ bit_at bytes (p + i)
unfolding bits_from
bits_at bytes p zero i h = absurd (omega arith)
bits_at bytes p (suc n) zero h = ap (bit_at bytes) (let e : p ≡ p + 0 = omega arith in e)
bits_at bytes p (suc n) (suc i) h = bits_at bytes (suc p) n i (omega arith) ∙ ap (bit_at bytes) (let e : suc p + i ≡ p + suc i = omega arith in e)

bits-first : (bytes : List ℕ) (n i : ℕ) → i < n → get_or (bits_from bytes 0 n) i O ≡ bit_at bytes i
bits-first bytes n i h = bits_at bytes 0 n i h ∙ ap (bit_at bytes) (let e : 0 + i ≡ i = omega arith in e)

-- what is read from p on, up to n: the bit at p and what comes after it
pub rest-cons : (bytes : List ℕ) (p n : ℕ) → p < n → bits_from bytes p (n - p) ≡ bit_at bytes p ∷ bits_from bytes (p + 1) (n - (p + 1))
unfolding bits_from
rest-cons bytes p n h =
    ap (bits_from bytes p) (let e : n - p ≡ suc (n - (p + 1)) = omega arith in e)
    ∙ ap (λ q. bit_at bytes p ∷ bits_from bytes q (n - (p + 1))) (sym (add-one p))

pub rest-nil : (bytes : List ℕ) (p n : ℕ) → n ≤ p → bits_from bytes p (n - p) ≡ []
unfolding bits_from
rest-nil bytes p n h = ap (bits_from bytes p) (let e : n - p ≡ 0 = omega arith in e)

-- the first k bits, and those after them
pub bits-cut : (bytes : List ℕ) (k m p : ℕ) → bits_from bytes p (k + m) ≡ bits_from bytes p k ++ bits_from bytes (p + k) m
unfolding bits_from
bits-cut bytes zero m p = ap₂ (bits_from bytes) (let e : p ≡ p + 0 = omega arith in e) (let e : 0 + m ≡ m = omega arith in e)
bits-cut bytes (suc k) m p =
    ap (bits_from bytes p) (let e : suc k + m ≡ suc (k + m) = omega arith in e)
    ∙ ap (λ r. bit_at bytes p ∷ r) (bits-cut bytes k m (suc p))
    ∙ ap (λ q. bit_at bytes p ∷ bits_from bytes (suc p) k ++ bits_from bytes q m) (let e : suc p + k ≡ p + suc k = omega arith in e)

-- of the bits after the first i, those after the first q
pub rest-drop : (bytes : List ℕ) (i q n : ℕ) → i ≤ q → q ≤ n → drop (q - i) (bits_from bytes i (n - i)) ≡ bits_from bytes q (n - q)
rest-drop bytes i q n h g =
    ap (λ v. drop (q - i) (bits_from bytes i v)) (let e : n - i ≡ q - i + (n - q) = omega arith in e)
    ∙ ap (drop (q - i)) (bits-cut bytes (q - i) (n - q) i)
    ∙ drop_at (bits_from bytes i (q - i)) (bits_from bytes (i + (q - i)) (n - q)) (q - i) (bits-length bytes i (q - i))
    ∙ ap (λ v. bits_from bytes v (n - q)) (let e : i + (q - i) ≡ q = omega arith in e)

-- bits of one byte, read off the whole list
pub bits_of_byte : (bytes : List ℕ) (i r n : ℕ) → r + n ≤ 8 → bits_from bytes (8 * i + r) n ≡ bits_from (get_or bytes i 0 ∷ []) r n
unfolding bits_from bit_at
bits_of_byte bytes i r zero h = refl
bits_of_byte bytes i r (suc n) h =
    ap₂ ◌∷◌
    (ap₂ (λ q e. bit (q / 2 ^ (7 - e) % 2))
    (ap (λ q. get_or bytes q 0) (let e : (8 * i + r) / 8 ≡ i = omega arith in e) ∙ ap (λ q. get_or (get_or bytes i 0 ∷ []) q 0) (let e : 0 ≡ r / 8 = omega arith in e))
    (let e : (8 * i + r) % 8 ≡ r % 8 = omega arith in e))
    (ap (λ q. bits_from bytes q n) (let e : suc (8 * i + r) ≡ 8 * i + suc r = omega arith in e) ∙ bits_of_byte bytes i (suc r) n (omega arith))

-- ---- no bit is set

none-set : (bs : List Bit) → ones bs ≡ 0 → (i : ℕ) → get_or bs i O ≡ O
none-set [] e i = refl
none-set (O ∷ bs) e zero = refl
none-set (O ∷ bs) e (suc i) = none-set bs e i
none-set (I ∷ bs) e i = absurd (omega arith)

set-none : (bs : List Bit) → ((i : ℕ) → i < length bs → get_or bs i O ≡ O) → ones bs ≡ 0
set-none [] h = refl
set-none (O ∷ bs) h = set-none bs (λ i l. h (suc i) (omega arith))
set-none (I ∷ bs) h = I≢O (h 0 (omega arith))

-- no leftover bit is set exactly if each is zero
pub leftover-bits : (bytes : List ℕ) (L : ℕ) → leftover bytes L ≡ false → (p : ℕ) → L ≤ p → p < 8 * bytes_for L → bit_at bytes p ≡ O
unfolding leftover
leftover-bits bytes L e p h g =
    let n = 8 * bytes_for L - L in
    let z : ones (bits_from bytes L n) ≡ 0 = omega (arith, ltb-false 0 (ones (bits_from bytes L n)) e) in
    ap (bit_at bytes) (let s : p ≡ L + (p - L) = omega arith in s) ∙ sym (bits_at bytes L n (p - L) (omega arith)) ∙ none-set (bits_from bytes L n) z (p - L)

pub bits-leftover : (bytes : List ℕ) (L : ℕ) → ((p : ℕ) → L ≤ p → p < 8 * bytes_for L → bit_at bytes p ≡ O) → leftover bytes L ≡ false
unfolding leftover
bits-leftover bytes L h =
    let n = 8 * bytes_for L - L in
    let l = bits-length bytes L n in
    let z : ones (bits_from bytes L n) ≡ 0 = set-none (bits_from bytes L n) (λ i g. bits_at bytes L n i (omega arith) ∙ h (L + i) (omega arith) (omega arith)) in
    le-ltb 0 (ones (bits_from bytes L n)) (omega arith)

-- ---- writing, then reading

pub packed-length : (bs : List Bit) → length (packed bs) ≡ bytes_for (length bs)
unfolding packed
packed-length bs = length-bytes_of (bytes_for (length bs)) bs

pub packed_bytes : (bs : List Bit) → AreBytes (packed bs)
unfolding packed
packed_bytes bs = bytes_of_lt (bytes_for (length bs)) bs

pub packed-bit : (bs : List Bit) (p : ℕ) → p < 8 * bytes_for (length bs) → bit_at (packed bs) p ≡ get_or bs p O
unfolding packed
packed-bit bs p h = bytes_of-bit (bytes_for (length bs)) bs p h

pub packed_read : (bs : List Bit) → bits_from (packed bs) 0 (length bs) ≡ bs
packed_read bs =
    ext_get_or O (bits_from (packed bs) 0 (length bs)) bs (bits-length (packed bs) 0 (length bs))
    (λ i h. let l : i < length bs = omega (arith, bits-length (packed bs) 0 (length bs)) in
    bits-first (packed bs) (length bs) i l ∙ packed-bit bs i (omega arith))

pub packed-leftover : (bs : List Bit) → leftover (packed bs) (length bs) ≡ false
packed-leftover bs = bits-leftover (packed bs) (length bs) (λ p h g. packed-bit bs p g ∙ get_or-eq_default bs O h)

-- ---- reading, then writing

pub read_packed : (bytes : List ℕ) (L : ℕ) → AreBytes bytes → length bytes ≡ bytes_for L → leftover bytes L ≡ false → packed (bits_from bytes 0 L) ≡ bytes
read_packed bytes L b l e =
    let bs = bits_from bytes 0 L in
    let n : length bs ≡ L = bits-length bytes 0 L in
    let m : bytes_for (length bs) ≡ bytes_for L = ap (λ k. bytes_for k) n in
    same_bits_lem (packed bs) bytes (packed_bytes bs) b (packed-length bs ∙ m ∙ sym l) (λ p h. go p (omega (arith, packed-length bs)))
  where
    go : (p : ℕ) → p < 8 * bytes_for L → bit_at (packed (bits_from bytes 0 L)) p ≡ bit_at bytes p
    go p h =
        let bs = bits_from bytes 0 L in
        let n : length bs ≡ L = bits-length bytes 0 L in
        let m : bytes_for (length bs) ≡ bytes_for L = ap (λ k. bytes_for k) n in
        packed-bit bs p (omega arith) ∙ elim (dec_lt p L) [
          | yes g ↦ bits-first bytes L p g
          | no g ↦ get_or-eq_default bs O (omega arith) ∙ sym (leftover-bits bytes L e p (omega arith) h)
        ]
