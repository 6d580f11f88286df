-- Bits that are one in one string and not in another.
use Rattle.std.specs.Prelude.{List, [], ◌∷◌}
use Rattle.meaning.specs.Strings.{Bit, O, I}

abbrev pub alone : Bit → Bit → Bit
alone x O = x
alone x I = O

-- one where the first is one and the second is not, as far as both reach
abbrev pub without : List Bit → List Bit → List Bit
without [] ys = []
without (x ∷ xs) [] = []
without (x ∷ xs) (y ∷ ys) = alone x y ∷ without xs ys
