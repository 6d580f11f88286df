use Rattle.seal_r0.proofs.Following.{Following}
use Rattle.seal_r0.proofs.write_r0_samples.Given as goal

abbrev pub invariant-loop-s : goal.invariant-loop-s
invariant-loop-s l = Following l.ps l.initial.image l.image l.r0_samples l.s
