-- Tables that are filled from the front, and running sums.
use Rattle.std.specs.Prelude.{List, ℕ, zero, suc, ◌+◌, get_or}

-- what the first w numbers come to
unfoldable pub sum_to : List ℕ → ℕ → ℕ
sum_to xs zero = 0
sum_to xs (suc w) = sum_to xs w + get_or xs w 0
