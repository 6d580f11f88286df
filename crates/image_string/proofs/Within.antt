-- What holds from a to before b, found one by one or part by part.
use Prim.Native.Nat.{ℕ, ◌+◌, ◌≤◌, ◌<◌}
use native.Mathlib.Decide.{dec_lt}
use native.Mathlib.Omega.{arith}
use borrow.Author.Count.{below_more}

module _ (P : ℕ → Type 0) where
  pub within_more : (a i : ℕ) → ((p : ℕ) → a ≤ p → p < i → P p) → P i → (p : ℕ) → a ≤ p → p < i + 1 → P p
  within_more a i all here p h g = below_more (λ q. a ≤ q → P q) i (λ q l k. all q k l) (λ k. here) p g h

  pub within_join : (a i b : ℕ) → ((p : ℕ) → a ≤ p → p < i → P p) → ((p : ℕ) → i ≤ p → p < b → P p) → (p : ℕ) → a ≤ p → p < b → P p
  within_join a i b before after p h g = elim (dec_lt p i) [
    | yes l ↦ before p h l
    | no l ↦ after p (omega arith) g
  ]
