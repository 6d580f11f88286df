-- Where a tree that starts at a bit ends, or is refused (document 01, code 4 and "Traps in the
-- papers").
use Rattle.std.specs.Prelude.{List, [], ◌∷◌, ℕ, zero, suc, ◌-◌}
use Rattle.meaning.specs.Strings.{Bit, O, I}

pub data End : Type 0 where
  -- so many bits are read when the tree is over, and it has so many nodes
  over : (next size : ℕ) → End
  -- the bit at which the bits are refused; one more than there are, if they end before the tree
  -- does
  refused : (place : ℕ) → End

-- with i bits read: p nodes are pending besides the one that is read, and m more are allowed
unfoldable pub inside_end : List Bit → ℕ → ℕ → ℕ → End
inside_end [] i p m = refused (suc i)
inside_end (O ∷ bs) i zero m = over (suc i) (65535 - m)
inside_end (O ∷ bs) i (suc p) m = inside_end bs (suc i) p m
inside_end (I ∷ bs) i p zero = refused (suc i)
inside_end (I ∷ bs) i p (suc m) = inside_end bs (suc i) (suc p) m

-- a tree begins with 10
unfoldable pub tree_end : List Bit → ℕ → End
unfolding inside_end
tree_end [] i = refused (suc i)
tree_end (O ∷ bs) i = refused (suc i)
tree_end (I ∷ []) i = refused (suc (suc i))
tree_end (I ∷ I ∷ bs) i = refused (suc (suc i))
tree_end (I ∷ O ∷ bs) i = inside_end bs (suc (suc i)) 0 65534
