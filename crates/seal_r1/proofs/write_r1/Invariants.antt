use Prim.Native.Nat.{◌-◌, ◌*◌}
use lib.ListN.{length}
use Rattle.seal_r1.proofs.Ending.{Ending}
use Rattle.seal_r1.proofs.write_r1.Given as goal

abbrev pub invariant-loop-b : goal.invariant-loop-b
invariant-loop-b l = Ending l.ps l.initial.image l.image l.samples l.b l.k

abbrev pub decreases-loop-b : goal.decreases-loop-b
decreases-loop-b l = length l.ps - 8 * l.b
