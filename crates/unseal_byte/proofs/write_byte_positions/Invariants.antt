use mathlib.Core.List.{[], ◌∷◌}
use Rattle.meaning.specs.Bytes.{bits_from}
use Rattle.unseal_byte.proofs.Placing.{Down}
use Rattle.unseal_byte.proofs.write_byte_positions.Given as goal

abbrev pub invariant-loop-bit : goal.invariant-loop-bit
invariant-loop-bit l = Down (bits_from (l.x ∷ []) 0 l.n) l.i l.k l.initial.out l.bit l.out l.low
