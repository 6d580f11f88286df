-- A table filled from its front, and running sums.
use mathlib.Core.Path.{◌≡◌, refl, sym, ap, ◌∙◌}
use mathlib.Core.List.{List}
use Prim.Native.Nat.{ℕ, ◌+◌, ◌≤◌, ◌<◌}
use native.Mathlib.Decide.{dec_lt}
use native.Mathlib.Numerals.{add-one}
use native.Mathlib.Omega.{arith}
use lib.ListN.{length, get_or, set}
use lib.Seq.{get_or-set_same, get_or-set_other}
use Rattle.theory.specs.Tables.{sum_to}

-- a table filled from its front
module _ (f : ℕ → ℕ) (table : List ℕ) (w v : ℕ) where
  pub filled_more : w < length table → v ≡ f w → ((q : ℕ) → q < w → get_or table q 0 ≡ f q) → (q : ℕ) → q < w + 1 → get_or (set table w v) q 0 ≡ f q
  filled_more h e all q l = elim (dec_lt q w) [
    | yes g ↦ get_or-set_other table w q v 0 (λ d. absurd (omega arith)) ∙ all q g
    | no g ↦
        let d : q ≡ w = omega arith in
        ap (λ x. get_or (set table w v) x 0) d ∙ get_or-set_same table w v 0 h ∙ e ∙ ap f (sym d)
  ]

  pub kept_more : ((q : ℕ) → w ≤ q → get_or table q 0 ≡ f q) → (q : ℕ) → w + 1 ≤ q → get_or (set table w v) q 0 ≡ f q
  kept_more all q l = get_or-set_other table w q v 0 (λ d. absurd (omega arith)) ∙ all q (omega arith)

pub sum-next : (xs : List ℕ) (w : ℕ) → sum_to xs (w + 1) ≡ sum_to xs w + get_or xs w 0
unfolding sum_to
sum-next xs w = ap (sum_to xs) (add-one w)

pub sum-none : (xs : List ℕ) → 0 ≡ sum_to xs 0
unfolding sum_to
sum-none xs = refl
