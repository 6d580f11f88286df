-- R1 and R0 of a parent list, entry by entry from the left: a run of ones ends where the next entry
-- differs, and a run of zeros before that entry.
use Rattle.std.specs.Prelude.{cond, List, [], ◌∷◌, ◌++◌, ℕ, zero, suc, ◌-◌, eqb, replicate}
use Rattle.meaning.specs.Strings.{Bit, O, I, ones, R1, string_of}

-- the entry that comes first, or `end`, which is after the last one
abbrev pub next_of : List ℕ → ℕ → ℕ
next_of [] end = end
next_of (q ∷ qs) end = q

-- 1 for two entries that differ, else 0
unfoldable pub unlike : ℕ → ℕ → ℕ
unlike a b = cond (eqb a b) 0 1

-- a one that d zeros follow
abbrev pub mark_of : ℕ → Bit
mark_of zero = O
mark_of (suc d) = I

-- a run of d zeros
abbrev pub gap_of : ℕ → List Bit
gap_of zero = []
gap_of (suc d) = replicate d O ++ I ∷ []

unfoldable pub ends_of : List ℕ → ℕ → List Bit
ends_of [] end = []
ends_of (p ∷ ps) end = mark_of (next_of ps end - p) ∷ ends_of ps end

unfoldable pub gaps_of : List ℕ → ℕ → List Bit
gaps_of [] end = []
gaps_of (p ∷ ps) end = gap_of (next_of ps end - p) ++ gaps_of ps end

-- how many runs of ones there are
abbrev pub runs_in : List ℕ → ℕ
runs_in ps = ones (R1 (string_of ps))
