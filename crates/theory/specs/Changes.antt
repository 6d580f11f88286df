-- How many bits of two strings of one length differ.
use Rattle.std.specs.Prelude.{List, [], ◌∷◌, ℕ, suc}
use Rattle.meaning.specs.Strings.{Bit, O, I}

-- in how many places two strings of one length differ
abbrev pub changed : List Bit → List Bit → ℕ
changed [] bs = 0
changed (x ∷ xs) [] = 0
changed (O ∷ xs) (O ∷ ys) = changed xs ys
changed (I ∷ xs) (I ∷ ys) = changed xs ys
changed (O ∷ xs) (I ∷ ys) = suc (changed xs ys)
changed (I ∷ xs) (O ∷ ys) = suc (changed xs ys)
