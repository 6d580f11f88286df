-- How the parents are written that two strings give: the positions of the ones of R0, spread over
-- the bits of R1.
use Rattle.std.specs.Prelude.{◌≡◌, List, [], ◌∷◌, ◌++◌, ℕ, ◌+◌, length, get_or, take, drop}
use Rattle.meaning.specs.Strings.{Bit, O, I, ones}
use Rattle.theory.specs.Layout.{Runs}

-- for each bit the first of some numbers; a one takes it away
unfoldable pub spread : List Bit → List ℕ → List ℕ
spread [] zs = []
spread (O ∷ bs) zs = get_or zs 0 0 ∷ spread bs zs
spread (I ∷ bs) zs = get_or zs 0 0 ∷ spread bs (drop 1 zs)

-- the numbers from entry p on, spread over bits and written from entry i on: entry r has the number
-- for what comes next
pub record SpreadOut (bits : List Bit) (i p : ℕ) (old out : List ℕ) (r : ℕ) : Type 0 where
  pub count : r ≡ p + ones bits
  pub made : out ≡ take i old ++ spread bits (drop p old) ++ drop (i + length bits) old

-- two strings of as many runs
pub record InRuns (a b : List Bit) : Type 0 where
  pub marks : ℕ
  pub first : Runs marks a
  pub second : Runs marks b
