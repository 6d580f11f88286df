-- Document 01's numbers for the end of a tree ("Numbers a caller gets back").
use Rattle.std.specs.Prelude.{Result, Ok, Err, true, not, ℕ, ◌+◌, eqb}
use Rattle.meaning.specs.Answers.{Row, ◌at◌when◌}
use Rattle.string_end.specs.declared.TreeEnd.{TreeEnd}

-- of L bits that are read as one string: the bit at which its tree is refused, or the one after
-- it, if there is one
abbrev pub end_row : Result TreeEnd ℕ → ℕ → Row
end_row (Ok end) L = 4 at end.next + 1 when not (eqb end.next L)
end_row (Err place) L = 4 at place when true
