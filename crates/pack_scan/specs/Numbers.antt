-- Document 01's numbers for what the scan of a pack finds ("Numbers a caller gets back").
use Rattle.std.specs.Prelude.{Result, Ok, Err, true, not, ℕ, eqb}
use Rattle.meaning.specs.Answers.{Row, ◌at◌when◌}

-- where there are to be k trees: the number found, if it is another, or the bit at which the bits
-- are refused
abbrev pub pack_row : Result ℕ ℕ → ℕ → Row
pack_row (Ok found) k = 10 at found when not (eqb found k)
pack_row (Err place) k = 4 at place when true
