-- Trees as parenthesis text (document 02, item 4): `(` is byte 40, `)` byte 41, and bytes 32, 10
-- and 13 may be anywhere and mean nothing.
use Rattle.std.specs.Prelude.{Bool, cond, ◌||◌, List, [], ◌∷◌, ℕ, zero, suc, eqb}
use Rattle.meaning.specs.Strings.{Bit, O, I}

abbrev pub is_blank : ℕ → Bool
is_blank c = eqb c 32 || eqb c 10 || eqb c 13

unfoldable pub without_blanks : List ℕ → List ℕ
without_blanks [] = []
without_blanks (c ∷ cs) = let rest = without_blanks cs in cond (is_blank c) rest (c ∷ rest)

-- brackets as text
unfoldable pub text_of : List Bit → List ℕ
text_of [] = []
text_of (I ∷ bs) = 40 ∷ text_of bs
text_of (O ∷ bs) = 41 ∷ text_of bs

-- the brackets of a text; other bytes are left out
unfoldable pub brackets_in : List ℕ → List Bit
brackets_in [] = []
brackets_in (c ∷ cs) = let rest = brackets_in cs in cond (eqb c 40) (I ∷ rest) (cond (eqb c 41) (O ∷ rest) rest)

-- ---- Reading byte by byte.

pub data Reading : Type 0 where
  -- k nodes are open, and m more levels may be opened
  inside : (k m : ℕ) → Reading
  -- the tree is over
  over : Reading
  -- the last byte cannot be where it is
  wrong : Reading
  -- the last byte opens a level too many
  too_deep : Reading

abbrev pub opening : Reading → Reading
opening (inside k zero) = too_deep
opening (inside k (suc m)) = inside (suc k) m
opening over = wrong
opening wrong = wrong
opening too_deep = too_deep

-- a node is closed, and k are open
abbrev pub closed : ℕ → ℕ → Reading
closed zero m = over
closed (suc k) m = inside (suc k) m

abbrev pub closing : Reading → Reading
closing (inside zero m) = wrong
closing (inside (suc k) m) = closed k (suc m)
closing over = wrong
closing wrong = wrong
closing too_deep = too_deep

abbrev pub step : Reading → ℕ → Reading
step s c = cond (is_blank c) s (cond (eqb c 40) (opening s) (cond (eqb c 41) (closing s) wrong))

-- how a reading ends: with one tree, or at a byte, from 1
pub data Read : Type 0 where
  whole : Read
  -- up to this byte the text cannot be continued to a tree; the length + 1 where it ends too early
  broken : (byte : ℕ) → Read
  -- this byte opens a level too many
  deeper : (byte : ℕ) → Read

-- of the bytes after the first i, which led to this state
unfoldable pub read_from : List ℕ → ℕ → Reading → Read
read_from [] i (inside k m) = broken (suc i)
read_from [] i over = whole
read_from [] i wrong = broken i
read_from [] i too_deep = deeper i
read_from (c ∷ cs) i (inside k m) = read_from cs (suc i) (step (inside k m) c)
read_from (c ∷ cs) i over = read_from cs (suc i) (step over c)
read_from (c ∷ cs) i wrong = broken i
read_from (c ∷ cs) i too_deep = deeper i

-- at most m levels
unfoldable pub read_within : ℕ → List ℕ → Read
unfolding read_from
read_within m text = read_from text 0 (inside 0 m)

unfoldable pub read_text : List ℕ → Read
unfolding read_within
read_text text = read_within 64 text

-- the byte at which a text is broken, and at which it is too deep; 0 where it is not
abbrev pub broken_at : Read → ℕ
broken_at whole = 0
broken_at (broken p) = p
broken_at (deeper p) = 0

abbrev pub deeper_at : Read → ℕ
deeper_at whole = 0
deeper_at (broken p) = 0
deeper_at (deeper p) = p
