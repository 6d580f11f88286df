use mathlib.Core.List.{[], ◌∷◌}
use Prim.Native.Nat.{◌+◌, ◌-◌}
use native.Mathlib.Omega.{arith}
use lib.ListN.{length-set}
use Rattle.meaning.specs.Bytes.{bit_at, bits_from}
use Rattle.theory.proofs.Packing.{bits-length}
use Rattle.bits_byte.proofs.Values.{value-le}
use Rattle.unseal_byte.proofs.Pieces.{bit_piece}
use Rattle.unseal_byte.proofs.Placing.{placed-bit, down-first, down-next}
use Rattle.unseal_byte.proofs.write_byte_positions.Goals as goal

pub loop-bit-init : goal.loop-bit-init
loop-bit-init c = down-first _ _ _ _ _ (omega (arith, bits-length (c.args.x ∷ []) 0 c.args.n)) (omega arith) (omega arith)

pub overflow_sub-low : goal.overflow_sub-low
overflow_sub-low c = omega (arith, value-le _ _ c.bit_of-low.ensures)

pub loop-bit-preserved : goal.loop-bit-preserved
loop-bit-preserved c =
    let a = c.args in
    let l = c.loop-bit in
    let byte = a.x ∷ [] in
    let j = l.bit - 1 in
    let s = a.i + j + 1 in
    let most = bits-length byte 0 a.n in
    down-next (bits_from byte 0 a.n) (bit_at byte j ∷ []) a.i a.k a.out.now j 1 l.bit (omega arith) (bit_piece byte a.n j (omega arith)) (omega arith) l.out
    l.low l.invariant _ _ (length-set l.out (l.low - 1) s) (placed-bit (bit_at byte j) (a.i + j) l.low l.out _ c.bit_of-low.ensures (omega arith) (omega arith))
