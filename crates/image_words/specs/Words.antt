-- A word written into lent bytes (document 01, "Image").
use Rattle.std.specs.Prelude.{List, ◌++◌, ℕ, suc, take, drop}
use Rattle.meaning.specs.Blocks.{le32}

-- the image with four bytes at p, little-endian
unfoldable pub with_word : List ℕ → ℕ → ℕ → List ℕ
with_word bytes p w = take p bytes ++ (le32 w ++ drop (suc (suc (suc (suc p)))) bytes)
