-- What bits hold as a pack: so many trees, or the bit at which they are refused (document 01, codes
-- 4 and 10).
use Rattle.std.specs.Prelude.{Result, Ok, Err, cond, List, ℕ, eqb, length}
use Rattle.meaning.specs.Strings.{Bit}
use Rattle.meaning.specs.Scan.{many, place}
use Rattle.meaning.specs.Packs.{sizes}

pub data Found : Type 0 where
  trees : (k : ℕ) → Found
  refused : (place : ℕ) → Found

unfoldable pub found : List Bit → Found
found bs = cond (eqb (place many bs) 0) (trees (length (sizes bs))) (refused (place many bs))

abbrev pub found_of : Result ℕ ℕ → Found
found_of (Ok k) = trees k
found_of (Err place) = refused place
