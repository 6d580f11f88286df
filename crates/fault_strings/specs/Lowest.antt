-- The lowest wrong block of some, as an option.
use Rattle.std.specs.Prelude.{◌≡◌, ℕ, ◌+◌, ◌<◌, Option, Some, None}

-- of k blocks from block `from` on, the j-th of which is right if `Right j` holds: `found` is the
-- lowest that is wrong, if any is
pub data LowestBlock (Right : ℕ → Type 0) (from k : ℕ) (found : Option ℕ) : Type 0 where
  all_right : found ≡ None → ((j : ℕ) → j < k → Right j) → LowestBlock Right from k found
  wrong_at : (j : ℕ) → j < k → found ≡ Some (from + j) → ((i : ℕ) → i < j → Right i) → (Right j → ⊥) → LowestBlock Right from k found
