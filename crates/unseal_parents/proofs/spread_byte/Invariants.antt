use mathlib.Core.List.{[], ◌∷◌}
use Rattle.meaning.specs.Bytes.{bits_from}
use Rattle.unseal_parents.proofs.Spreading.{Up}
use Rattle.unseal_parents.proofs.spread_byte.Given as goal

abbrev pub invariant-loop-bit : goal.invariant-loop-bit
invariant-loop-bit l = Up (bits_from (l.x ∷ []) 0 l.n) l.i l.p l.initial.out l.bit l.out l.from
