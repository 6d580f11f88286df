use mathlib.Core.Path.{◌≡◌}
use Prim.Native.Nat.{suc, ◌-◌, ◌*◌, ◌≤◌}
use lib.ListN.{length}
use Rattle.meaning.specs.Image.{parents_in}
use Rattle.meaning.specs.Listing.{listing}
use Rattle.list_measure.specs.Levels.{ones_before_in, below, size_of, levels_from}
use Rattle.list_measure.proofs.Cursors.{Found}
use Rattle.list_measure.proofs.measure.Given as goal

abbrev pub invariant-loop-a : goal.invariant-loop-a
invariant-loop-a l =
    (levels_from (λ k. ones_before_in l.b (suc k)) (64 - l.depth) l.a l.z l.nodes ≡ size_of (listing 65 (parents_in l.b) l.x 0)) × (l.a ≤ l.image.nodes) × (l.z ≤ l.image.nodes) ×
    (l.nodes ≤ 65535 * l.depth)
    × (l.depth ≤ 64) × (length l.cursors ≡ 64) × Found (below l.b) l.cursors l.depth l.a l.z (l.x - 1) l.x

abbrev pub decreases-loop-a : goal.decreases-loop-a
decreases-loop-a l = 64 - l.depth
