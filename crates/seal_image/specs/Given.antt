-- The metres of a lent list, which is empty where there are none: a tree has at least one node.
use Rattle.std.specs.Prelude.{List, [], ◌∷◌, ℕ}
use Rattle.std.proofs.Math.Option.{Option, none, some}

abbrev pub given : List ℕ → Option (List ℕ)
given [] = none
given (m ∷ ms) = some (m ∷ ms)
