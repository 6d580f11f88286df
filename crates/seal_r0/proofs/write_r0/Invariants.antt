use Rattle.seal_r0.proofs.Gapping.{Gapping}
use Rattle.seal_r0.proofs.write_r0.Given as goal

abbrev pub invariant-loop-i : goal.invariant-loop-i
invariant-loop-i l = Gapping l.ps l.initial.image l.image l.zeros l.c l.byte l.i
