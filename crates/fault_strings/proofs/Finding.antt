-- What the pass over both strings tells, from what it has found up to a block.
use mathlib.Core.Path.{◌≡◌, refl, sym, ap, subst, ◌∙◌}
use mathlib.Core.List.{List}
use Prim.Native.Nat.{ℕ, ◌+◌, ◌*◌, ◌<◌}
use native.Mathlib.Decide.{dec_lt}
use native.Mathlib.Omega.{arith}
use Rattle.std.specs.Prelude.{Option, Some, None}
use Rattle.std.proofs.lemmas.Option.{none-some}
use Rattle.theory.specs.Layout.{word_at}
use Rattle.image_string.specs.Parts.{ones_to}
use Rattle.fault_strings.specs.declared.Miscounted.{Miscounted}
use Rattle.fault_strings.specs.Lowest.{LowestBlock, all_right, wrong_at}
use Rattle.fault_strings.specs.Given.{CountKept, Lowest, earlier, right, this}
use Rattle.fault_strings.specs.Found.{Finds}

pub finds_same : (r : Option Miscounted) (Said Known : Type 0) (bytes : List ℕ) (r0_block n : ℕ) → (Known → Said) → (Said → Known) → Finds r Known bytes r0_block n → Finds r Said bytes r0_block n
finds_same None Said Known bytes r0_block n there back f = λ s. f (back s)
finds_same (Some w) Said Known bytes r0_block n there back f = (there f.0, f.1, f.2)

-- ---- the lowest block with a wrong count

module _ (bytes : List ℕ) (first : ℕ) where
  -- before the first block
  pub none_yet : LowestBlock (CountKept bytes first) first 0 None
  none_yet = all_right refl (λ j h. absurd (omega arith))

  -- and one block more
  module _ (j : ℕ) (found : Option ℕ) (block kept ones : ℕ) (r : Option ℕ) (at : block ≡ first + j) (read : kept ≡ word_at bytes (512 * block)) (count : ones ≡ ones_to bytes first (4000 * j)) where
    kept_here : kept ≡ ones → CountKept bytes first j
    kept_here e = ap (λ k. word_at bytes (512 * k)) (sym at) ∙ sym read ∙ e ∙ count

    here-kept : CountKept bytes first j → kept ≡ ones
    here-kept k = read ∙ ap (λ k. word_at bytes (512 * k)) at ∙ k ∙ sym count

    all-kept : ((i : ℕ) → i < j → CountKept bytes first i) → CountKept bytes first j → (i : ℕ) → i < j + 1 → CountKept bytes first i
    all-kept all k i h = elim (dec_lt i j) [
      | yes l ↦ all i l
      | no l ↦ let e : j ≡ i = omega arith in subst (CountKept bytes first) e k
    ]

    pub lowest_more : LowestBlock (CountKept bytes first) first j found → Lowest found block kept ones r → LowestBlock (CountKept bytes first) first (j + 1) r
    lowest_more (all_right e all) (right same f) = all_right (f ∙ e) (all-kept all (kept_here same))
    lowest_more (all_right e all) (earlier p g f) = absurd (none-some p (sym e ∙ g))
    lowest_more (all_right e all) (this f other g) = wrong_at j (omega arith) (g ∙ ap Some at) all (λ k. other (here-kept k))
    lowest_more (wrong_at i h e below wrong) (right same f) = wrong_at i (omega arith) (f ∙ e) below wrong
    lowest_more (wrong_at i h e below wrong) (earlier p g f) = wrong_at i (omega arith) (f ∙ e) below wrong
    lowest_more (wrong_at i h e below wrong) (this f other g) = absurd (none-some (first + i) (sym f ∙ e))
