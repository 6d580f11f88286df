-- Document 01's numbers for what a listing takes ("Numbers a caller gets back").
use Rattle.std.specs.Prelude.{Ok, Err, Result, List, [], ◌∷◌, ℕ}
use Rattle.meaning.specs.Answers.{◌at◌when◌, Outcome, refused_with, counts, came_to, settle, written, too_short}

-- what the listing of these pairs comes to by it: so many nodes, where there is room, or code 9 at
-- the first node at depth 64
abbrev pub measured_outcome : Result ℕ ℕ → (pairs out : List ℕ) → Outcome (List ℕ)
measured_outcome (Ok n) pairs out = settle out (1 at 0 when too_short pairs out ∷ []) (counts n 0) (written pairs out)
measured_outcome (Err x) pairs out = came_to (refused_with 9 x) out
