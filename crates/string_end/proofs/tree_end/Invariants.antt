use Prim.Native.Nat.{◌+◌, ◌-◌, ◌*◌, ◌/◌, ◌≤◌, ◌<◌}
use mathlib.Core.Path.{◌≡◌}
use lib.ListN.{get_or}
use Rattle.std.specs.Prelude.{Err}
use Rattle.string_end_laws.proofs.Steps.{Open}
use Rattle.string_end.proofs.tree_end.Given as goal

abbrev pub invariant-loop-p : goal.invariant-loop-p
invariant-loop-p l =
    (l.initial.p ≤ l.p) × (l.p ≤ l.stop) × (l.initial.p < l.stop) × (l.stop ≤ l.n) × (l.stop ≤ 8 * (l.initial.p / 8) + 8) × (l.byte ≡ get_or l.b (l.initial.p / 8) 0)
    × (l.end ≡ Err (l.n + 1)) × Open l.b l.n l.at l.p l.pending l.room

abbrev pub decreases-loop-p : goal.decreases-loop-p
decreases-loop-p l = l.stop - l.p

abbrev pub invariant-tree : goal.invariant-tree
invariant-tree l = (l.p ≤ l.n) × (l.end ≡ Err (l.n + 1)) × Open l.b l.n l.at l.p l.pending l.room

abbrev pub decreases-tree : goal.decreases-tree
decreases-tree l = l.n - l.p
