use Prim.Native.Nat.{◌*◌, ◌≤◌}
use Rattle.bits_nearest.specs.Found.{Clear}
use Rattle.bits_nearest.proofs.last_one.Given as goal

abbrev pub invariant-loop-left : goal.invariant-loop-left
invariant-loop-left l = (l.left ≤ l.n) × Clear l.b (8 * l.at) l.left l.n

abbrev pub decreases-loop-left : goal.decreases-loop-left
decreases-loop-left l = l.left
