use Prim.Native.Nat.{◌*◌}
use Rattle.meaning.specs.Bytes.{bits_from}
use Rattle.unseal_parents.proofs.Spreading.{Up}
use Rattle.unseal_parents.proofs.spread_block.Given as goal

abbrev pub invariant-loop-w : goal.invariant-loop-w
invariant-loop-w l = Up (bits_from l.b (8 * l.at) l.n) l.i l.p l.initial.out (8 * l.w) l.out l.from
