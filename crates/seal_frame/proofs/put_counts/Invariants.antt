use Rattle.seal_frame.proofs.Counting.{Counting}
use Rattle.seal_frame.proofs.put_counts.Given as goal

abbrev pub invariant-loop-j : goal.invariant-loop-j
invariant-loop-j l = Counting l.initial.image l.image l.bits_block l.n l.c l.j
