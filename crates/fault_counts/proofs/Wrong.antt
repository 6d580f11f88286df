-- The lowest block with a wrong count or unused payload that is not zero, from the tests of its
-- string, or of the words after a list of numbers.
use mathlib.Core.Path.{◌≡◌, ap, sym, ◌∙◌}
use mathlib.Core.List.{List}
use mathlib.Core.Bool.{true, false}
use Prim.Native.Nat.{ℕ, ◌+◌, ◌-◌, ◌*◌, ◌/◌, ◌%◌, ◌≤◌, ◌<◌}
use native.Mathlib.Omega.{arith}
use Rattle.std.specs.Prelude.{Option, Some, None}
use Rattle.std.specs.Option.{is_some}
use Rattle.meaning.specs.Strings.{ones}
use Rattle.meaning.specs.Bytes.{bit_at}
use Rattle.meaning.specs.Image.{string_blocks, string_in}
use Rattle.theory.specs.Layout.{word_at, bit_place, sample_place}
use Rattle.theory.specs.Stages.{word_blocks}
use Rattle.theory.specs.Faults.{BlockKept, RestKept}
use Rattle.image_string.specs.Parts.{Counted, Unused}
use Rattle.check_sample.specs.Words.{ListEnds}
use Rattle.check_sample.proofs.Ending.{ends-kept}
use Rattle.fault_strings.specs.Lowest.{LowestBlock, all_right, wrong_at}
use Rattle.fault_strings.specs.Given.{CountKept}

module _ (bytes : List ℕ) (first n : ℕ) (some : 1 ≤ n) where
  abbrev last : ℕ
  last = (n - 1) / 4000

  abbrev Lowest : Option ℕ → Type 0
  Lowest r = LowestBlock (BlockKept bytes first n) first (string_blocks n) r

  -- all but the last block are full
  full_kept : (j : ℕ) → j < last → word_at bytes (512 * (first + j)) ≡ ones (string_in bytes first 0 (4000 * j)) → BlockKept bytes first n j
  full_kept j h e = record { count = e; unused = λ i a b c. absurd (omega arith) }

  pub wrong_count_lem : (r : Option ℕ) → LowestBlock (CountKept bytes first) first (string_blocks n) r → is_some r ≡ true → Lowest r
  wrong_count_lem r (all_right e all) some_wrong = let f : true ≡ false = sym some_wrong ∙ ap is_some e in cc
  wrong_count_lem r (wrong_at j h e below wrong) some_wrong = wrong_at j h e (λ i l. full_kept i (omega arith) (below i l)) (λ k. wrong k.count)

  pub none_miscounted : (r : Option ℕ) → LowestBlock (CountKept bytes first) first (string_blocks n) r → is_some r ≡ false → Counted bytes first n
  none_miscounted r (all_right e all) z = all
  none_miscounted r (wrong_at j l e below wrong) z = let f : false ≡ true = sym z ∙ ap is_some e in cc

  pub wrong_rest : (r : Option ℕ) → Counted bytes first n → (Unused bytes (512 * (first + last) + 4) (n - 4000 * last) → ⊥) → r ≡ Some (first + last) → Lowest r
  wrong_rest r counted wrong e =
      wrong_at last (omega arith) e (λ i l. full_kept i l (counted i (omega arith)))
      (λ k. wrong (λ i a b.
      ap (bit_at bytes) (let f : 8 * (512 * (first + last) + 4) + i ≡ bit_place first (4000 * last + i) = omega arith in f)
      ∙ k.unused (4000 * last + i) (omega arith) (omega arith) (omega arith)))

module _ (bytes : List ℕ) (from k : ℕ) where
  pub none_after : (r : Option ℕ) → ListEnds bytes from k → r ≡ None → LowestBlock (RestKept bytes from k) from (word_blocks k) r
  none_after r z e = all_right e (ends-kept bytes from k z)

  -- only the last block has words after the list
  full_rest : (j : ℕ) → j + 1 < word_blocks k → RestKept bytes from k j
  full_rest j h w g over = absurd (omega arith)

  pub wrong_after_lem : (r : Option ℕ) → 1 ≤ k → (ListEnds bytes from k → ⊥) → r ≡ Some (from + (word_blocks k - 1)) → LowestBlock (RestKept bytes from k) from (word_blocks k) r
  wrong_after_lem r some wrong e =
      let last = word_blocks k - 1 in
      wrong_at last (omega arith) e (λ i l. full_rest i (omega arith))
      (λ kept. wrong (λ q h g.
      ap (word_at bytes) (let f : sample_place from q ≡ 512 * (from + last) + 4 * (q % 126) = omega arith in f) ∙ kept (q % 126) (omega arith) (omega arith)))
