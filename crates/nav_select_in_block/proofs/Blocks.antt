-- The bits of one block of a string.
use mathlib.Core.Path.{◌≡◌, sym, ap, ◌∙◌}
use mathlib.Core.List.{List}
use Prim.Native.Nat.{ℕ, ◌+◌, ◌-◌, ◌*◌, ◌/◌, ◌%◌, ◌≤◌, ◌<◌}
use native.Mathlib.Omega.{arith}
use lib.ListN.{get_or, take}
use lib.Seq.{ext_get_or}
use Rattle.meaning.specs.Strings.{O, ones}
use Rattle.meaning.specs.Bytes.{bit_at, bits_from}
use Rattle.meaning.specs.Image.{string_in}
use Rattle.theory.specs.Rank.{position}
use Rattle.theory.specs.Layout.{bit_place}
use Rattle.theory.proofs.Packing.{bits-length, bits_at, bits-cut}
use Rattle.theory.proofs.TreeImages.{length-string_in, string_in-at}
use Rattle.theory.proofs.InBlocks.{string_in-cut}
use Rattle.bits_byte.specs.Byte.{byte_bits}
use Rattle.bits_count.proofs.Runs.{byte_run}
use Rattle.image_string.specs.Parts.{ones_to}
use Rattle.image_string.proofs.Ones.{ones_to-cut}
use Rattle.bits_select.proofs.Reaching.{ones_mono, same_place, past-place}

-- bits of a string that are in one block
string-run : (bytes : List ℕ) (first s k : ℕ) → s % 4000 + k ≤ 4000 → string_in bytes first s k ≡ bits_from bytes (bit_place first s) k
string-run bytes first s k h =
    let l = length-string_in bytes first s k in
    ext_get_or O (string_in bytes first s k) (bits_from bytes (bit_place first s) k) (l ∙ sym (bits-length bytes (bit_place first s) k))
    (λ i g. string_in-at bytes first s k i (omega arith)
    ∙ ap (bit_at bytes) (let e : bit_place first (s + i) ≡ bit_place first s + i = place i (omega arith) in e)
    ∙ sym (bits_at bytes (bit_place first s) k i (omega arith)))
  where
    place : (i : ℕ) → s % 4000 + i < 4000 → bit_place first (s + i) ≡ bit_place first s + i
    place i g = omega arith

-- the byte of bit i is at `at`
module _ (bytes : List ℕ) (first i at : ℕ) (is_at : at ≡ 512 * (first + i / 4000) + 4 + i % 4000 / 8) where
  -- how many bits come before that byte, and how many before the end of the block
  abbrev start : ℕ
  start = i - i % 8

  abbrev end : ℕ
  end = 4000 * (i / 4000 + 1)

  from_byte : (k : ℕ) → start + k ≤ end → string_in bytes first start k ≡ bits_from bytes (8 * at) k
  from_byte k h = string-run bytes first start k (omega arith) ∙ ap (λ p. bits_from bytes p k) (let e : bit_place first start ≡ 8 * at = omega arith in e)

  module _ (passed more : ℕ) (front : passed ≡ ones (take (i % 8) (byte_bits (get_or bytes at 0)))) (there : ones_to bytes first i + more < ones_to bytes first end) where
    passed_ones : ones_to bytes first start + passed ≡ ones_to bytes first i
    passed_ones =
        ap (λ n. ones_to bytes first start + n) (
        front
        ∙ byte_run bytes at (i % 8) (omega arith)
        ∙ ap (λ l. ones l) (sym (from_byte (i % 8) (omega arith)))
        )
        ∙ sym (ones_to-cut bytes first start (i % 8))
        ∙ ap (ones_to bytes first) (let e : start + i % 8 ≡ i = omega arith in e)

    -- the one that is looked for is in the rest of the block
    pub after-there : passed + more + 1 ≤ ones (bits_from bytes (8 * at) (end - start))
    after-there =
        omega (
          arith,
          passed_ones,
          ones_to-cut bytes first start (end - start),
          ap (ones_to bytes first) (let e : start + (end - start) ≡ end = omega arith in e),
          ap (λ l. ones l) (from_byte (end - start) (omega arith)),
        )

    module _ (size : ℕ) (room : 512 * (first + i / 4000 + 1) ≤ size) where
      pub after_read : passed + more + 1 ≤ ones (bits_from bytes (8 * at) (8 * (size - 7 - at)))
      after_read =
          omega (arith, after-there, ones_mono (bits_from bytes) (bits-cut bytes) (bits-length bytes) (8 * at) (end - start) (8 * (size - 7 - at)) (omega arith))

      pub after_is : start + position (bits_from bytes (8 * at) (8 * (size - 7 - at))) (passed + more + 1)
          ≡ position (string_in bytes first 0 end) (ones_to bytes first i + more + 1)
      after_is =
          let k = ones_to bytes first i + more + 1 in
          let short : ones_to bytes first start < k = omega (arith, passed_ones) in
          let num : k - ones_to bytes first start ≡ passed + more + 1 = omega (arith, passed_ones) in
          ap (λ n. start + n) (
          same_place (bits_from bytes) (bits-cut bytes) (bits-length bytes) (8 * at) (end - start) (8 * (size - 7 - at)) (passed + more + 1) (omega arith) after-there after_read
          ∙ ap (λ l. position l (passed + more + 1)) (sym (from_byte (end - start) (omega arith)))
          ∙ ap (λ p. position (string_in bytes first p (end - start)) (passed + more + 1)) (let e : start ≡ 0 + start = omega arith in e)
          ∙ ap (position (string_in bytes first (0 + start) (end - start))) (sym num)
          )
          ∙ sym (past-place (string_in bytes first) (λ a b p. string_in-cut bytes first a b p) (length-string_in bytes first) 0 start end k short (omega arith))
