-- What bits write into a list of parents, one after the other.
use Rattle.std.specs.Prelude.{List, [], ◌∷◌, ℕ, ◌+◌, ◌-◌, set}
use Rattle.meaning.specs.Strings.{Bit}
use Rattle.meaning.specs.Bytes.{value}

-- each bit, which p bits come before, writes the zeros among those into entry k, and a one moves on
-- to the next entry
unfoldable pub entered : List Bit → ℕ → ℕ → List ℕ → List ℕ
entered [] k p out = out
entered (x ∷ bs) k p out = entered bs (k + value x) (p + 1) (set out k (p - k))
