-- Tree strings and their two parts (document 01, "Tree string" and "Partitioned strings"; source
-- document 003, sections 3 and 3.2).
use Rattle.std.specs.Prelude.{List, [], ◌∷◌, ◌++◌, map, ℕ, zero, suc, ◌+◌, ◌-◌, length, replicate}
use Rattle.meaning.specs.Trees.{Tree, degrees, end_to_end}

pub data Bit : Type 0 where
  O I : Bit

abbrev pub ones : List Bit → ℕ
ones [] = 0
ones (O ∷ bs) = ones bs
ones (I ∷ bs) = suc (ones bs)

abbrev pub zeros : List Bit → ℕ
zeros [] = 0
zeros (O ∷ bs) = suc (zeros bs)
zeros (I ∷ bs) = zeros bs

-- the positions of the ones, where the first bit is at i
unfoldable pub positions : List Bit → ℕ → List ℕ
positions [] i = []
positions (O ∷ bs) i = positions bs (suc i)
positions (I ∷ bs) i = i ∷ positions bs (suc i)

-- ---- The string of a tree: 10 for the super-root, then for each node in level order as many 1s as
-- it has children and one 0.

abbrev pub unary : List ℕ → List Bit
unary [] = []
unary (d ∷ ds) = replicate d I ++ O ∷ unary ds

unfoldable pub lbs : Tree → List Bit
unfolding degrees
lbs t = I ∷ O ∷ unary (degrees t)

-- the strings of a list of trees, end to end
abbrev pub strings : List Tree → List Bit
strings ts = end_to_end (map lbs ts)

-- ---- A run of l equal bits becomes l - 1 zeros and a 1. R1 is made of the runs of ones, R0 of the
-- runs of zeros.

pub data Run : Type 0 where
  -- l + 1 bits b
  run : (b : Bit) (l : ℕ) → Run

-- one bit more in front of some runs
abbrev pub lead : Bit → List Run → List Run
lead b [] = run b 0 ∷ []
lead O (run O l ∷ rs) = run O (suc l) ∷ rs
lead O (run I l ∷ rs) = run O 0 ∷ run I l ∷ rs
lead I (run O l ∷ rs) = run I 0 ∷ run O l ∷ rs
lead I (run I l ∷ rs) = run I (suc l) ∷ rs

abbrev pub runs : List Bit → List Run
runs [] = []
runs (b ∷ bs) = lead b (runs bs)

-- of the runs of bits b
abbrev pub marks : Bit → List Run → List Bit
marks b [] = []
marks O (run O l ∷ rs) = replicate l O ++ I ∷ marks O rs
marks O (run I l ∷ rs) = marks O rs
marks I (run O l ∷ rs) = marks I rs
marks I (run I l ∷ rs) = replicate l O ++ I ∷ marks I rs

unfoldable pub R1 : List Bit → List Bit
R1 bs = marks I (runs bs)

unfoldable pub R0 : List Bit → List Bit
R0 bs = marks O (runs bs)

-- ---- From one form to another.

-- parents of a string: for each one how many zeros are before it, after z zeros
abbrev pub zeros_before : List Bit → ℕ → List ℕ
zeros_before [] z = []
zeros_before (I ∷ bs) z = z ∷ zeros_before bs z
zeros_before (O ∷ bs) z = zeros_before bs (suc z)

unfoldable pub parents_of : List Bit → List ℕ
parents_of bs = zeros_before bs 0

-- string of a parent list: before entry p as many zeros as bring their number from z to p, and at
-- the end to n
abbrev pub string_from : List ℕ → ℕ → ℕ → List Bit
string_from [] z n = replicate (n - z) O
string_from (p ∷ ps) z n = replicate (p - z) O ++ I ∷ string_from ps p n

unfoldable pub string_of : List ℕ → List Bit
string_of ps = string_from ps 0 (length ps + 1)

-- string of two parts: runs of ones and of zeros in turn, beginning with a run of bits b; f is at
-- least its length
abbrev pub weave : ℕ → Bit → List Bit → List Bit → List Bit
weave zero b r1 r0 = []
weave (suc f) I [] r0 = []
weave (suc f) I (O ∷ r1) r0 = I ∷ weave f I r1 r0
weave (suc f) I (I ∷ r1) r0 = I ∷ weave f O r1 r0
weave (suc f) O r1 [] = []
weave (suc f) O r1 (O ∷ r0) = O ∷ weave f O r1 r0
weave (suc f) O r1 (I ∷ r0) = O ∷ weave f I r1 r0

unfoldable pub woven : List Bit → List Bit → List Bit
woven r1 r0 = weave (length r1 + length r0) I r1 r0
