use Prim.Native.Nat.{◌-◌, ◌*◌, ◌≤◌}
use Rattle.bits_nearest.specs.Found.{Clear}
use Rattle.bits_nearest.proofs.first_one.Given as goal

abbrev pub invariant-loop-next : goal.invariant-loop-next
invariant-loop-next l = (l.n ≤ l.next) × (l.next ≤ 4000) × Clear l.b (8 * l.at) l.n l.next

abbrev pub decreases-loop-next : goal.decreases-loop-next
decreases-loop-next l = 4000 - l.next
