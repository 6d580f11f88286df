use Prim.Native.Nat.{◌*◌}
use Rattle.meaning.specs.Image.{string_in}
use Rattle.unseal_parents.proofs.Spreading.{Up}
use Rattle.unseal_parents.proofs.spread_string.Given as goal

abbrev pub invariant-loop-j : goal.invariant-loop-j
invariant-loop-j l = Up (string_in l.b 1 0 l.n) 0 l.p l.initial.out (4000 * l.j) l.out l.from
