use Rattle.string_write.proofs.Marking.{Marked}
use Rattle.string_write.proofs.write_string.Given as goal

abbrev pub invariant-loop-i : goal.invariant-loop-i
invariant-loop-i l = Marked l.ps l.from l.initial.buf l.buf l.i
