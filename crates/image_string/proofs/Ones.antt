-- The ones among the first bits of a string of an image.
use mathlib.Core.Path.{◌≡◌, sym, ap, ◌∙◌}
use mathlib.Core.List.{List}
use Prim.Native.Nat.{ℕ, ◌+◌, ◌-◌, ◌*◌, ◌≤◌, ◌<◌}
use native.Mathlib.Omega.{arith}
use lib.ListN.{get_or, take}
use Rattle.meaning.specs.Strings.{O, ones}
use Rattle.meaning.specs.Bytes.{value, bit_at, bits_from}
use Rattle.meaning.specs.Image.{string_in}
use Rattle.theory.specs.Layout.{bit_place}
use Rattle.theory.proofs.Odd.{ones-append}
use Rattle.theory.proofs.Payloads.{ones-le}
use Rattle.theory.proofs.TreeImages.{length-string_in, string_in-at}
use Rattle.theory.proofs.InBlocks.{string_in-cut, string_in-take, block_more}
use Rattle.bits_count.proofs.Runs.{ones_of_bit}
use Rattle.image_string.specs.Parts.{ones_to}

module _ (bytes : List ℕ) (f : ℕ) where
  pub ones_to-take : (p n : ℕ) → p ≤ n → ones (take p (string_in bytes f 0 n)) ≡ ones_to bytes f p
  ones_to-take p n h = ap ones (string_in-take bytes f p n h)

  pub ones_to-cut : (i m : ℕ) → ones_to bytes f (i + m) ≡ ones_to bytes f i + ones (string_in bytes f i m)
  ones_to-cut i m =
      ap ones (string_in-cut bytes f i m 0)
      ∙ ones-append (string_in bytes f 0 i) (string_in bytes f (0 + i) m)
      ∙ ap (λ q. ones_to bytes f i + ones (string_in bytes f q m)) (let e : 0 + i ≡ i = omega arith in e)

  pub ones_to-next : (i x : ℕ) → x ≡ value (bit_at bytes (bit_place f i)) → ones_to bytes f (i + 1) ≡ ones_to bytes f i + x
  unfolding string_in
  ones_to-next i x e = ones_to-cut i 1 ∙ ap (λ y. ones_to bytes f i + y) (ones_of_bit (bit_at bytes (bit_place f i)) ∙ sym e)

  pub ones_to_mono : (p q : ℕ) → p ≤ q → ones_to bytes f p ≤ ones_to bytes f q
  ones_to_mono p q h = omega (arith, ones_to-cut p (q - p), ap (ones_to bytes f) (let e : p + (q - p) ≡ q = omega arith in e))

  pub ones_to-le : (p : ℕ) → ones_to bytes f p ≤ p
  ones_to-le p = omega (arith, ones-le (string_in bytes f 0 p), length-string_in bytes f 0 p)

  pub string-at : (n i : ℕ) → i < n → get_or (string_in bytes f 0 n) i O ≡ bit_at bytes (bit_place f i)
  string-at n i h = string_in-at bytes f 0 n i h ∙ ap (λ q. bit_at bytes (bit_place f q)) (let e : 0 + i ≡ i = omega arith in e)

  -- within block j
  pub ones_to-block : (j k : ℕ) → k ≤ 4000 → ones_to bytes f (4000 * j + k) ≡ ones_to bytes f (4000 * j) + ones (bits_from bytes (8 * (512 * (f + j) + 4)) k)
  ones_to-block j k h = sym (block_more bytes f j k h)
