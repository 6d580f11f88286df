use Prim.Native.Nat.{◌*◌}
use Rattle.meaning.specs.Image.{string_in}
use Rattle.unseal_byte.proofs.Placing.{Down}
use Rattle.unseal_r0.proofs.write_string_positions.Given as goal

-- the whole blocks, after the bits after them were placed
abbrev pub invariant-loop-j : goal.invariant-loop-j
invariant-loop-j l = Down (string_in l.b l.bits_block 0 (4000 * l.blocks)) 0 l.initial.low l.initial.out (4000 * l.j) l.out l.low
