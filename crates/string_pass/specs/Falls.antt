-- How far the pending nodes of a tree fall while bits are read.
use Rattle.std.specs.Prelude.{List, [], ◌∷◌, ℕ, suc, ◌-◌}
use Rattle.meaning.specs.Strings.{Bit, O, I}

-- how far the pending nodes fall at most while bits are read: a zero takes one away, a one adds one
unfoldable pub fall : List Bit → ℕ
fall [] = 0
fall (O ∷ bs) = suc (fall bs)
fall (I ∷ bs) = fall bs - 1
