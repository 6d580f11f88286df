-- A string in its blocks: piece by piece, and the ones counted in them.
use mathlib.Core.Path.{◌≡◌, refl, sym, ap, ap₂, ◌∙◌}
use mathlib.Core.List.{List, ◌∷◌, ◌++◌}
use Prim.Native.Nat.{ℕ, zero, suc, ◌+◌, ◌-◌, ◌*◌, ◌≤◌, ◌<◌}
use native.Mathlib.Omega.{arith}
use lib.ListN.{take}
use lib.Seq.{ext_get_or, take_at}
use Rattle.meaning.specs.Strings.{O, ones}
use Rattle.meaning.specs.Bytes.{bit_at, bits_from}
use Rattle.meaning.specs.Image.{string_in}
use Rattle.theory.specs.Layout.{bit_place}
use Rattle.theory.proofs.Odd.{ones-append}
use Rattle.theory.proofs.Payloads.{ones-le}
use Rattle.theory.proofs.Packing.{bits-length, bits_at}
use Rattle.theory.proofs.TreeImages.{length-string_in, string_in-at}

pub string_in-cut : (bytes : List ℕ) (b k m i : ℕ) → string_in bytes b i (k + m) ≡ string_in bytes b i k ++ string_in bytes b (i + k) m
unfolding string_in
string_in-cut bytes b zero m i = ap₂ (string_in bytes b) (let e : i ≡ i + 0 = omega arith in e) (let e : 0 + m ≡ m = omega arith in e)
string_in-cut bytes b (suc k) m i =
    ap (string_in bytes b i) (let e : suc k + m ≡ suc (k + m) = omega arith in e)
    ∙ ap (λ r. bit_at bytes (bit_place b i) ∷ r) (string_in-cut bytes b k m (suc i))
    ∙ ap (λ q. bit_at bytes (bit_place b i) ∷ string_in bytes b (suc i) k ++ string_in bytes b q m) (let e : suc i + k ≡ i + suc k = omega arith in e)

pub string_in-take : (bytes : List ℕ) (b k n : ℕ) → k ≤ n → take k (string_in bytes b 0 n) ≡ string_in bytes b 0 k
string_in-take bytes b k n h =
    ap (λ m. take k (string_in bytes b 0 m)) (let e : n ≡ k + (n - k) = omega arith in e)
    ∙ ap (take k) (string_in-cut bytes b k (n - k) 0)
    ∙ take_at (string_in bytes b 0 k) (string_in bytes b (0 + k) (n - k)) k (length-string_in bytes b 0 k)

-- within block j
pub string_in-block : (bytes : List ℕ) (b j k : ℕ) → k ≤ 4000 → string_in bytes b (4000 * j) k ≡ bits_from bytes (8 * (512 * (b + j) + 4)) k
string_in-block bytes b j k h =
    let l = length-string_in bytes b (4000 * j) k in
    ext_get_or O (string_in bytes b (4000 * j) k) (bits_from bytes (8 * (512 * (b + j) + 4)) k) (l ∙ sym (bits-length bytes (8 * (512 * (b + j) + 4)) k))
    (λ i g. string_in-at bytes b (4000 * j) k i (omega arith)
    ∙ ap (bit_at bytes) (let e : bit_place b (4000 * j + i) ≡ 8 * (512 * (b + j) + 4) + i = place i (omega arith) in e)
    ∙ sym (bits_at bytes (8 * (512 * (b + j) + 4)) k i (omega arith)))
  where
    place : (i : ℕ) → i < 4000 → bit_place b (4000 * j + i) ≡ 8 * (512 * (b + j) + 4) + i
    place i g = omega arith

pub string-ones-le : (bytes : List ℕ) (b n : ℕ) → ones (string_in bytes b 0 n) ≤ n
string-ones-le bytes b n = omega (arith, ones-le (string_in bytes b 0 n), length-string_in bytes b 0 n)

-- after j blocks, k bits more
pub block_more : (bytes : List ℕ) (b j k : ℕ) → k ≤ 4000
    → ones (string_in bytes b 0 (4000 * j)) + ones (bits_from bytes (8 * (512 * (b + j) + 4)) k) ≡ ones (string_in bytes b 0 (4000 * j + k))
block_more bytes b j k h =
    ap (λ l. ones (string_in bytes b 0 (4000 * j)) + ones l) (sym (string_in-block bytes b j k h))
    ∙ ap (λ i. ones (string_in bytes b 0 (4000 * j)) + ones (string_in bytes b i k)) (let e : 4000 * j ≡ 0 + 4000 * j = omega arith in e)
    ∙ sym (ones-append (string_in bytes b 0 (4000 * j)) (string_in bytes b (0 + 4000 * j) k))
    ∙ ap (λ l. ones l) (sym (string_in-cut bytes b (4000 * j) k 0))

pub no_string : (bytes : List ℕ) (b : ℕ) → 0 ≡ ones (string_in bytes b 0 (4000 * 0))
unfolding string_in
no_string bytes b = refl

-- a whole block more
pub full_more : (bytes : List ℕ) (b j : ℕ) → ones (string_in bytes b 0 (4000 * j)) + ones (bits_from bytes (8 * (512 * (b + j) + 4)) 4000) ≡ ones (string_in bytes b 0 (4000 * (j + 1)))
full_more bytes b j =
    block_more bytes b j 4000 (omega arith) ∙ ap (λ n. ones (string_in bytes b 0 n)) (let e : 4000 * j + 4000 ≡ 4000 * (j + 1) = omega arith in e)

-- the ones counted so far, and those of the next bits, which begin at byte `at`
pub counted_on : (bytes : List ℕ) (b j k at s r : ℕ) → k ≤ 4000 → at ≡ 512 * (b + j) + 4 → s ≡ ones (string_in bytes b 0 (4000 * j)) → r ≡ ones (bits_from bytes (8 * at) k)
    → s + r ≡ ones (string_in bytes b 0 (4000 * j + k))
counted_on bytes b j k at s r h there e f =
    ap₂ ◌+◌ e (f ∙ ap (λ p. ones (bits_from bytes (8 * p) k)) there) ∙ block_more bytes b j k h

pub counted_full : (bytes : List ℕ) (b j at s r : ℕ) → at ≡ 512 * (b + j) + 4 → s ≡ ones (string_in bytes b 0 (4000 * j)) → r ≡ ones (bits_from bytes (8 * at) 4000)
    → s + r ≡ ones (string_in bytes b 0 (4000 * (j + 1)))
counted_full bytes b j at s r there e f =
    counted_on bytes b j 4000 at s r (omega arith) there e f
    ∙ ap (λ n. ones (string_in bytes b 0 n)) (let e : 4000 * j + 4000 ≡ 4000 * (j + 1) = omega arith in e)
