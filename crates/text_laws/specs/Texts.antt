-- Which bytes are the parenthesis text of a tree, and which begin one (document 02, item 4).
use Rattle.std.specs.Prelude.{◌≡◌, List, ◌++◌, ℕ, zero, suc}
use Rattle.meaning.specs.Trees.{Tree, Trees, node, none, ◌then◌}
use Rattle.meaning.specs.Brackets.{brackets}
use Rattle.meaning.specs.Text.{without_blanks, text_of}

-- ---- Trees of at most m levels.

-- m is not 0, and P holds of one less
abbrev pub Below : ℕ → (ℕ → Type 0) → Type 0
Below zero P = ⊥
Below (suc m) P = P m

unfoldable mutual
  pub Within : ℕ → Tree → Type 0
  Within m (node f) = Below m (λ k. AllWithin k f)

  -- each of these trees
  pub AllWithin : ℕ → Trees → Type 0
  AllWithin m none = Unit
  AllWithin m (t then f) = Within m t × AllWithin m f

-- ---- Their texts: without its blanks the text is the tree's brackets.

-- the text of some tree of at most m levels
abbrev pub IsText : ℕ → List ℕ → Type 0
IsText m text = (t : Tree) × Within m t × (without_blanks text ≡ text_of (brackets t))

-- the beginning of one
abbrev pub BeginsText : ℕ → List ℕ → Type 0
BeginsText m text = (rest : List ℕ) × IsText m (text ++ rest)

-- the text of some tree, of any depth and size
abbrev pub SomeText : List ℕ → Type 0
SomeText text = (t : Tree) × (without_blanks text ≡ text_of (brackets t))

-- the beginning of one
abbrev pub BeginsSome : List ℕ → Type 0
BeginsSome text = (rest : List ℕ) × SomeText (text ++ rest)
