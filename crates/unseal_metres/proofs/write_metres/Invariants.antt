use Prim.Native.Nat.{◌+◌, ◌*◌, min}
use Rattle.unseal_metres.proofs.Copying.{Copying}
use Rattle.unseal_metres.proofs.write_metres.Given as goal

abbrev pub invariant-loop-w : goal.invariant-loop-w
invariant-loop-w l = Copying l.b l.block l.initial.out l.out (126 * l.j + l.w)

abbrev pub invariant-loop-j : goal.invariant-loop-j
invariant-loop-j l = Copying l.b l.block l.initial.out l.out (min (126 * l.j) l.n)
