use Prim.Native.Nat.{◌+◌}
use Rattle.image_string.proofs.Zeros.{Seen}
use Rattle.image_string.proofs.all_zero.Given as goal

abbrev pub invariant-loop-x : goal.invariant-loop-x
invariant-loop-x l = Seen l.b l.from (l.from + l.x-index) l.seen
