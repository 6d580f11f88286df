-- Rank and select in R1 and R0, and the ones of a tree string before a zero (document 01,
-- "Questions", what the strings give).
use Rattle.std.specs.Prelude.{List, [], ◌∷◌, ℕ, zero, suc, ◌-◌, take}
use Rattle.meaning.specs.Trees.{Tree, degrees}
use Rattle.meaning.specs.Strings.{Bit, O, I, ones}

-- how many ones are strictly left of position i, positions from 1
unfoldable pub ones_left : List Bit → ℕ → ℕ
ones_left bs i = ones (take (i - 1) bs)

-- the position, from 1, of one number k; of one number 0 it is 0
abbrev pub position : List Bit → ℕ → ℕ
position [] k = 0
position (b ∷ bs) zero = 0
position (O ∷ bs) (suc k) = suc (position bs (suc k))
position (I ∷ bs) (suc k) = suc (position bs k)

-- how many ones are before zero number z; zero number 0 is the beginning
abbrev pub ones_before : List Bit → ℕ → ℕ
ones_before [] z = 0
ones_before (b ∷ bs) zero = 0
ones_before (I ∷ bs) (suc z) = suc (ones_before bs (suc z))
ones_before (O ∷ bs) (suc z) = ones_before bs z

-- n numbers, from i on
abbrev pub counting : ℕ → ℕ → List ℕ
counting i zero = []
counting i (suc n) = i ∷ counting (suc i) n

-- how many of these numbers are not 0
abbrev pub some : List ℕ → ℕ
some [] = 0
some (zero ∷ ds) = some ds
some (suc d ∷ ds) = suc (some ds)

-- how many nodes have children
unfoldable pub with_children : Tree → ℕ
with_children t = some (degrees t)
