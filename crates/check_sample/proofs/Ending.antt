-- The words after the last number of a list, byte by byte: they end its block.
use mathlib.Core.Path.{◌≡◌, ap, ◌∙◌}
use mathlib.Core.List.{List}
use Prim.Native.Nat.{ℕ, ◌+◌, ◌-◌, ◌*◌, ◌/◌, ◌%◌, ◌≤◌, ◌<◌}
use native.Mathlib.Omega.{arith}
use lib.ListN.{get_or}
use Rattle.theory.specs.Layout.{word_at, sample_place}
use Rattle.theory.specs.Stages.{word_blocks}
use Rattle.theory.specs.Faults.{RestKept}
use Rattle.image_string.specs.Parts.{ZeroBytes}
use Rattle.image_string.proofs.Zeros.{word_bytes, zero_word}
use Rattle.check_sample.specs.Words.{ListEnds}

module _ (bytes : List ℕ) (from s : ℕ) (f : s % 126 ≡ 0 → ⊥) (at : ℕ) (a : at ≡ 512 * (from + s / 126)) where
  place : (q : ℕ) → s ≤ q → q < 126 * ((s + 125) / 126) → sample_place from q ≡ at + 4 * (q - 126 * (s / 126))
  place q h g = omega arith

  pub rest-zero : ZeroBytes bytes (at + 4 * (s % 126)) (at + 504) → ListEnds bytes from s
  rest-zero z q h g =
      ap (word_at bytes) (place q (omega arith) (omega arith))
      ∙ zero_word bytes (at + 4 * (s % 126)) (at + 504) (at + 4 * (q - 126 * (s / 126))) z (omega arith) (omega arith)

  pub zero_rest : ListEnds bytes from s → ZeroBytes bytes (at + 4 * (s % 126)) (at + 504)
  zero_rest z i h g =
      let w = (i - at) / 4 in
      let q = 126 * (s / 126) + w in
      ap (λ j. get_or bytes j 0) (let p : i ≡ sample_place from q + (i - at) % 4 = omega arith in p)
      ∙ word_bytes bytes (sample_place from q) ((i - at) % 4) (z q (omega arith) (omega arith)) (omega arith)

-- the same block by block
module _ (bytes : List ℕ) (from k : ℕ) where
  pub ends-kept : ListEnds bytes from k → (j : ℕ) → j < word_blocks k → RestKept bytes from k j
  ends-kept z j h w g over =
      ap (word_at bytes) (let e : 512 * (from + j) + 4 * w ≡ sample_place from (126 * j + w) = omega arith in e) ∙ z (126 * j + w) over (omega arith)

  pub kept-ends : ((j : ℕ) → j < word_blocks k → RestKept bytes from k j) → ListEnds bytes from k
  kept-ends z q h g = z (q / 126) (omega arith) (q % 126) (omega arith) (omega arith)
