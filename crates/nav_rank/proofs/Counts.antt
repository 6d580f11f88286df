-- The ones before a bit of a string, counted from either end of its block.
use mathlib.Core.Path.{◌≡◌, sym, ap, ◌∙◌}
use mathlib.Core.List.{List}
use Prim.Native.Nat.{ℕ, zero, suc, ◌+◌, ◌-◌, ◌*◌, ◌/◌, ◌%◌, ◌≤◌, ◌<◌}
use native.Mathlib.Omega.{arith}
use Rattle.meaning.specs.Strings.{ones}
use Rattle.meaning.specs.Bytes.{bits_from, value}
use Rattle.meaning.specs.Image.{string_blocks, string_in}
use Rattle.theory.specs.Layout.{word_at}
use Rattle.theory.specs.Rank.{ones_left}
use Rattle.theory.specs.Stages.{CountsAndPadding}
use Rattle.theory.proofs.TreeImages.{length-string_in}
use Rattle.theory.proofs.InBlocks.{block_more, full_more}
use Rattle.bits_count.proofs.Runs.{ones-after}
use Rattle.image_string.specs.Parts.{ones_to}
use Rattle.image_string.proofs.Ones.{ones_to-take, ones_to-next}

-- ---- words

-- after the first w words from byte `at` on, q bits more
pub words_more : (bytes : List ℕ) (at w q : ℕ)
    → ones (bits_from bytes (8 * at) (64 * w)) + ones (bits_from bytes (8 * (at + 8 * w)) q) ≡ ones (bits_from bytes (8 * at) (64 * w + q))
words_more bytes at w q =
    ap (λ n. ones (bits_from bytes (8 * at) n) + ones (bits_from bytes (8 * (at + 8 * w)) q)) (let e : 64 * w ≡ 8 * (8 * w) = omega arith in e)
    ∙ sym (ones-after bytes at (8 * w) q)
    ∙ ap (λ n. ones (bits_from bytes (8 * at) n)) (let e : 8 * (8 * w) + q ≡ 64 * w + q = omega arith in e)

-- one word more
pub word_more : (bytes : List ℕ) (at i : ℕ)
    → ones (bits_from bytes (8 * at) (64 * i)) + ones (bits_from bytes (8 * (at + 8 * i)) 64) ≡ ones (bits_from bytes (8 * at) (64 * (i + 1)))
word_more bytes at i = words_more bytes at i 64 ∙ ap (λ n. ones (bits_from bytes (8 * at) n)) (let e : 64 * i + 64 ≡ 64 * (i + 1) = omega arith in e)

-- ---- bit p of block j, in its word

module _ (bytes : List ℕ) (first j p : ℕ) (inside : p < 4000) where
  -- the block's first byte of bits, and that of the word
  abbrev start : ℕ
  start = 512 * (first + j) + 4

  abbrev at : ℕ
  at = start + 8 * (p / 64)

  to_bit : ones_to bytes first (4000 * j) + (ones (bits_from bytes (8 * start) (64 * (p / 64))) + ones (bits_from bytes (8 * at) (p % 64)))
      ≡ ones_to bytes first (4000 * j + p)
  to_bit =
      ap (λ n. ones_to bytes first (4000 * j) + n) (words_more bytes start (p / 64) (p % 64)
      ∙ ap (λ n. ones (bits_from bytes (8 * start) n)) (let e : 64 * (p / 64) + p % 64 ≡ p = omega arith in e))
      ∙ block_more bytes first j p (omega arith)

  pub front_is : (count words part : ℕ) → count ≡ ones_to bytes first (4000 * j) → words ≡ ones (bits_from bytes (8 * start) (64 * (p / 64)))
      → part ≡ ones (bits_from bytes (8 * at) (p % 64)) → count + words + part ≡ ones_to bytes first (4000 * j + p)
  front_is count words part e f g = omega (arith, to_bit)

  -- from the word on: whole words, and the half word at the end of the block
  to_end : ones (bits_from bytes (8 * at) (64 * (62 - p / 64))) + ones (bits_from bytes (8 * (start + 496)) 32) ≡ ones (bits_from bytes (8 * at) (4000 - 64 * (p / 64)))
  to_end =
      ap (λ s. ones (bits_from bytes (8 * at) (64 * (62 - p / 64))) + ones (bits_from bytes (8 * s) 32)) (let e : start + 496 ≡ at + 8 * (62 - p / 64) = omega arith in e)
      ∙ words_more bytes at (62 - p / 64) 32
      ∙ ap (λ n. ones (bits_from bytes (8 * at) n)) (let e : 64 * (62 - p / 64) + 32 ≡ 4000 - 64 * (p / 64) = omega arith in e)

  whole : ones (bits_from bytes (8 * start) (64 * (p / 64))) + ones (bits_from bytes (8 * at) (4000 - 64 * (p / 64))) ≡ ones (bits_from bytes (8 * start) 4000)
  whole =
      words_more bytes start (p / 64) (4000 - 64 * (p / 64))
      ∙ ap (λ n. ones (bits_from bytes (8 * start) n)) (let e : 64 * (p / 64) + (4000 - 64 * (p / 64)) ≡ 4000 = omega arith in e)

  pub end_is : (end part words last : ℕ) → end ≡ ones_to bytes first (4000 * (j + 1)) → part ≡ ones (bits_from bytes (8 * at) (p % 64))
      → words ≡ ones (bits_from bytes (8 * at) (64 * (62 - p / 64))) → last ≡ ones (bits_from bytes (8 * (start + 496)) 32)
      → end + part ≡ ones_to bytes first (4000 * j + p) + (words + last)
  end_is end part words last e f g h = omega (arith, to_bit, to_end, whole, full_more bytes first j)

-- position x is bit number x - 1
pub rank_is : (bytes : List ℕ) (first n x : ℕ) → 1 ≤ x → x ≤ n → (r : ℕ) → r ≡ ones_to bytes first (4000 * ((x - 1) / 4000) + (x - 1) % 4000)
    → r ≡ ones_left (string_in bytes first 0 n) x
unfolding ones_left
rank_is bytes first n x s l r e =
    e ∙ ap (ones_to bytes first) (let q : 4000 * ((x - 1) / 4000) + (x - 1) % 4000 ≡ x - 1 = omega arith in q) ∙ sym (ones_to-take bytes first (x - 1) n (omega arith))

-- ---- the ones before the end of a block

module _ (bytes : List ℕ) (first n : ℕ) (kept : CountsAndPadding bytes first (string_in bytes first 0 n)) where
  pub kept-count : (j : ℕ) → j < string_blocks n → word_at bytes (512 * (first + j)) ≡ ones_to bytes first (4000 * j)
  kept-count j h = kept.counts j (omega (arith, length-string_in bytes first 0 n)) ∙ ones_to-take bytes first (4000 * j) n (omega arith)

  -- after the string there are none
  unused_more : (d : ℕ) → n + d ≤ 4000 * string_blocks n → ones_to bytes first (n + d) ≡ ones_to bytes first n
  unfolding value
  unused_more zero h = ap (ones_to bytes first) (let e : n + 0 ≡ n = omega arith in e)
  unused_more (suc d) h =
      let l = length-string_in bytes first 0 n in
      let more = ones_to-next bytes first (n + d) 0 (sym (ap value (kept.unused (n + d) (omega arith) (omega arith)))) in
      ap (ones_to bytes first) (let e : n + suc d ≡ n + d + 1 = omega arith in e)
      ∙ (let e : ones_to bytes first (n + d + 1) ≡ ones_to bytes first (n + d) = omega arith in e)
      ∙ unused_more d (omega arith)

  pub last_end : (j : ℕ) → j < string_blocks n → j ≡ (n - 1) / 4000 → ones_to bytes first n ≡ ones_to bytes first (4000 * (j + 1))
  last_end j h e =
      let d = 4000 * (j + 1) - n in
      sym (unused_more d (omega arith)) ∙ ap (ones_to bytes first) (let f : n + d ≡ 4000 * (j + 1) = omega arith in f)

  pub next-end : (j : ℕ) → j + 1 < string_blocks n → word_at bytes (512 * (first + j + 1)) ≡ ones_to bytes first (4000 * (j + 1))
  next-end j h = ap (λ i. word_at bytes (512 * i)) (let e : first + j + 1 ≡ first + (j + 1) = omega arith in e) ∙ kept-count (j + 1) h
