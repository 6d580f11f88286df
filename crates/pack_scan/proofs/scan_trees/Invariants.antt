use Prim.Native.Nat.{◌-◌}
use Rattle.pack_scan.proofs.Parts.{Noted}
use Rattle.pack_scan.proofs.scan_trees.Given as goal

abbrev pub invariant-loop-at : goal.invariant-loop-at
invariant-loop-at l = Noted l.b l.n l.initial.firsts l.initial.counts l.at l.trees l.firsts l.counts

abbrev pub decreases-loop-at : goal.decreases-loop-at
decreases-loop-at l = l.n - l.at
