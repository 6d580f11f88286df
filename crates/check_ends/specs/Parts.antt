-- What a string of an image is checked for.
use Rattle.std.specs.Prelude.{List, ℕ}
use Rattle.meaning.specs.Image.{string_in}
use Rattle.theory.specs.Stages.{Ended, CountsAndPadding}

-- a string of n bits, from block `first` on: its blocks, and m ones
pub record StringRight (bytes : List ℕ) (first n m : ℕ) : Type 0 where
  pub kept : CountsAndPadding bytes first (string_in bytes first 0 n)
  pub ended : Ended m (string_in bytes first 0 n)
