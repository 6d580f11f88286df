use Prim.Native.Nat.{◌*◌}
use Rattle.meaning.specs.Bytes.{bits_from}
use Rattle.unseal_byte.proofs.Placing.{Down}
use Rattle.unseal_r0.proofs.write_block_positions.Given as goal

-- the whole bytes, after the bits after them were placed
abbrev pub invariant-loop-w : goal.invariant-loop-w
invariant-loop-w l = Down (bits_from l.b (8 * l.at) (8 * l.bytes)) l.i l.initial.low l.initial.out (8 * l.w) l.out l.low
