-- The depth-first listing (document 01, "Splitting, joining, listing"): node and depth, two numbers
-- to a node.
use Rattle.std.specs.Prelude.{List, [], ◌∷◌, ◌++◌, cond, ℕ, zero, suc, eqb}
use Rattle.meaning.specs.Questions.{children_of}

abbrev pub for_each : {A B : Type 0} → (A → List B) → List A → List B
for_each f [] = []
for_each f (x ∷ xs) = f x ++ for_each f xs

-- node x at depth d and everything below it, parents first and children in order, down to f levels
unfoldable pub listing : ℕ → List ℕ → ℕ → ℕ → List ℕ
unfolding children_of
listing zero ps x d = []
listing (suc f) ps x d = x ∷ d ∷ for_each (λ c. listing f ps c (suc d)) (children_of ps x)

-- the first node listed at depth 64; 0 if there is none
unfoldable pub deep : List ℕ → ℕ
deep [] = 0
deep (x ∷ []) = 0
deep (x ∷ d ∷ rest) = let later = deep rest in cond (eqb d 64) x later
