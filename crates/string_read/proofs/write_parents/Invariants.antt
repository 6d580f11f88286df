use Prim.Native.Nat.{◌-◌, ◌*◌}
use Rattle.string_read.proofs.Writing.{Kept}
use Rattle.string_read.proofs.write_parents.Given as goal

abbrev pub invariant-loop-k : goal.invariant-loop-k
invariant-loop-k l = Kept l.b l.n l.nodes l.initial.out l.out l.k (8 * l.i)

abbrev pub decreases-loop-k : goal.decreases-loop-k
decreases-loop-k l = l.n - 8 * l.i

abbrev pub invariant-loop-k-2 : goal.invariant-loop-k-2
invariant-loop-k-2 l = Kept l.b l.n l.nodes l.initial.out l.out l.k l.p

abbrev pub decreases-loop-k-2 : goal.decreases-loop-k-2
decreases-loop-k-2 l = l.n - l.p
