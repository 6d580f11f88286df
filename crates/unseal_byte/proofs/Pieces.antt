-- Pieces of a run of bits and of a string: a bit, some bits of a byte, some bits of a block.
use mathlib.Core.Path.{◌≡◌, sym, ap, ap₂, ◌∙◌}
use mathlib.Core.List.{List, [], ◌∷◌, ◌++◌}
use Prim.Native.Nat.{ℕ, ◌+◌, ◌-◌, ◌*◌, ◌≤◌, ◌<◌}
use native.Mathlib.Omega.{arith}
use lib.ListN.{length, get_or, take, drop, take-append-drop, length-take, length-drop}
use lib.Seq.{take_at, drop_at, take-add, drop-drop}
use Rattle.meaning.specs.Strings.{Bit, ones}
use Rattle.meaning.specs.Bytes.{bit_at, bits_from}
use Rattle.meaning.specs.Image.{string_in}
use Rattle.theory.proofs.Odd.{ones-append}
use Rattle.theory.proofs.Packing.{bits-length, bits-cut, bits_of_byte}
use Rattle.theory.proofs.TreeImages.{length-string_in}
use Rattle.theory.proofs.InBlocks.{string_in-cut, string_in-block}

-- ---- the bits of a piece

piece : (bytes : List ℕ) (p n j s : ℕ) → j + s ≤ n → take s (drop j (bits_from bytes p n)) ≡ bits_from bytes (p + j) s
piece bytes p n j s h =
    let t = n - j - s in
    ap (λ k. take s (drop j (bits_from bytes p k))) (let e : n ≡ j + (s + t) = omega arith in e)
    ∙ ap (λ l. take s (drop j l)) (bits-cut bytes j (s + t) p)
    ∙ ap (take s) (drop_at (bits_from bytes p j) (bits_from bytes (p + j) (s + t)) j (bits-length bytes p j) ∙ bits-cut bytes s t (p + j))
    ∙ take_at (bits_from bytes (p + j) s) (bits_from bytes (p + j + s) t) s (bits-length bytes (p + j) s)

pub bit_piece : (bytes : List ℕ) (n j : ℕ) → j < n → take 1 (drop j (bits_from bytes 0 n)) ≡ bit_at bytes j ∷ []
unfolding bits_from
bit_piece bytes n j h = piece bytes 0 n j 1 (omega arith) ∙ ap (λ p. bit_at bytes p ∷ []) (let e : 0 + j ≡ j = omega arith in e)

pub byte_piece : (bytes : List ℕ) (at n w s : ℕ) → s ≤ 8 → 8 * w + s ≤ n
    → take s (drop (8 * w) (bits_from bytes (8 * at) n)) ≡ bits_from (get_or bytes (at + w) 0 ∷ []) 0 s
byte_piece bytes at n w s g h =
    piece bytes (8 * at) n (8 * w) s h
    ∙ ap (λ p. bits_from bytes p s) (let e : 8 * at + 8 * w ≡ 8 * (at + w) + 0 = omega arith in e)
    ∙ bits_of_byte bytes (at + w) 0 s (omega arith)

pub block_piece : (bytes : List ℕ) (first n j s at : ℕ) → at ≡ 512 * (first + j) + 4 → s ≤ 4000 → 4000 * j + s ≤ n
    → take s (drop (4000 * j) (string_in bytes first 0 n)) ≡ bits_from bytes (8 * at) s
block_piece bytes first n j s at is_at g h =
    let i = 4000 * j in
    let t = n - i - s in
    ap (λ k. take s (drop i (string_in bytes first 0 k))) (let e : n ≡ i + (s + t) = omega arith in e)
    ∙ ap (λ l. take s (drop i l)) (string_in-cut bytes first i (s + t) 0)
    ∙ ap (take s) (drop_at (string_in bytes first 0 i) (string_in bytes first (0 + i) (s + t)) i (length-string_in bytes first 0 i) ∙ string_in-cut bytes first s t (0 + i))
    ∙ take_at (string_in bytes first (0 + i) s) (string_in bytes first (0 + i + s) t) s (length-string_in bytes first (0 + i) s)
    ∙ ap (λ k. string_in bytes first k s) (let e : 0 + i ≡ i = omega arith in e)
    ∙ string_in-block bytes first j s g
    ∙ ap (λ p. bits_from bytes (8 * p) s) (sym is_at)

-- ---- what comes before and after a piece

module _ (all new : List Bit) (j s : ℕ) (e : take s (drop j all) ≡ new) where
  pub front_more : take (j + s) all ≡ take j all ++ new
  front_more = take-add j s all ∙ ap (λ l. take j all ++ l) e

  pub rest_more : drop j all ≡ new ++ drop (j + s) all
  rest_more = sym (take-append-drop s (drop j all)) ∙ ap₂ ◌++◌ e (drop-drop s j all)

  pub piece_length : j + s ≤ length all → length new ≡ s
  piece_length h = ap length (sym e) ∙ length-take s (drop j all) ∙ omega (arith, length-drop j all)

pub ones_parts : (all : List Bit) (j : ℕ) → ones (take j all) + ones (drop j all) ≡ ones all
ones_parts all j = sym (ones-append (take j all) (drop j all)) ∙ ap (λ l. ones l) (take-append-drop j all)
