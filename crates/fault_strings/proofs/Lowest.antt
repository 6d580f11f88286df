-- The lowest wrong block as an option, and as a number that is 0 where there is none.
use mathlib.Core.Path.{◌≡◌, sym, ap, ◌∙◌}
use Prim.Native.Nat.{ℕ, ◌+◌, ◌≤◌}
use native.Mathlib.Omega.{arith}
use Rattle.std.specs.Prelude.{Option, unwrap_or}
use Rattle.theory.specs.Faults.{LowestWrong, none, here}
use Rattle.theory.specs.Places.{place_of}
use Rattle.theory.proofs.Places.{place_of-some}
use Rattle.fault_strings.specs.Lowest.{LowestBlock, all_right, wrong_at}

module _ (Right : ℕ → Type 0) (from k : ℕ) (found : Option ℕ) where
  pub lowest_number : LowestBlock Right from k found → LowestWrong Right from k (unwrap_or found 0)
  lowest_number (all_right e all) = none (ap (λ o. unwrap_or o 0) e) all
  lowest_number (wrong_at j h e below wrong) = here j h (ap (λ o. unwrap_or o 0) e) below wrong

  -- no block of an image but the first is block 0
  pub lowest_place : 1 ≤ from → LowestBlock Right from k found → found ≡ place_of (unwrap_or found 0)
  lowest_place some (all_right e all) = e ∙ sym (ap (λ o. place_of (unwrap_or o 0)) e)
  lowest_place some (wrong_at j h e below wrong) = e ∙ sym (ap (λ o. place_of (unwrap_or o 0)) e ∙ place_of-some (from + j) (omega arith))
