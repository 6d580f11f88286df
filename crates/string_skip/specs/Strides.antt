-- A tree read by whole bytes.
use Rattle.std.specs.Prelude.{◌≡◌, List, ℕ, ◌+◌, ◌-◌, ◌*◌, ◌≤◌}
use Rattle.meaning.specs.Bytes.{bits_from}
use Rattle.string_end_laws.specs.Ends.{End, inside_end}
use Rattle.string_skip.specs.declared.ScanState.{ScanState}

-- the end of a tree inside which the reading of the first n bits is
unfoldable pub end_at : List ℕ → ℕ → ScanState → End
unfolding inside_end bits_from
end_at b n r = inside_end (bits_from b (8 * r.at) (n - 8 * r.at)) (8 * r.at) r.pending r.room

pub record Stands (n : ℕ) (r : ScanState) : Type 0 where
  pub within : 8 * r.at ≤ n
  pub few : r.pending + r.room ≤ 65534

-- reading on from one place to another leaves the tree its end
pub record ReadOn (b : List ℕ) (n : ℕ) (from to : ScanState) : Type 0 where
  pub stands : Stands n to
  pub on : from.at ≤ to.at
  pub same : end_at b n from ≡ end_at b n to
