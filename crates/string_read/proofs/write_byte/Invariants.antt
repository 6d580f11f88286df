use Rattle.string_read.proofs.Writing.{Entering}
use Rattle.string_read.proofs.write_byte.Given as goal

abbrev pub invariant-loop-bit : goal.invariant-loop-bit
invariant-loop-bit l = Entering l.x l.p l.k l.initial.out l.out l.next l.bit
