-- The pass that writes the metres of a lent image: what it writes, and that it changes nothing
-- else.
use Rattle.std.specs.Prelude.{◌≡◌, List, ℕ, ◌*◌, ◌<◌, length, get_or}
use Rattle.theory.specs.Layout.{word_at, sample_place}
use Rattle.theory.specs.Stages.{word_blocks}
use Rattle.seal_r1.specs.Passes.{Outside}

-- the numbers in the blocks that they take from block `block` on; after the last there are zeros
pub record MetresWritten (old bytes : List ℕ) (block : ℕ) (ms : List ℕ) : Type 0 where
  pub words : (w : ℕ) → w < 126 * word_blocks (length ms) → word_at bytes (sample_place block w) ≡ get_or ms w 0
  pub apart : (q : ℕ) → Outside block (word_blocks (length ms)) q → get_or bytes q 0 ≡ get_or old q 0
