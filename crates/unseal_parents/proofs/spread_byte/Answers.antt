use mathlib.Core.List.{[], ◌∷◌}
use Prim.Native.Nat.{◌+◌}
use native.Mathlib.Omega.{arith}
use lib.ListN.{get_or, length-set}
use Rattle.meaning.specs.Bytes.{bit_at, bits_from}
use Rattle.theory.proofs.Packing.{bits-length}
use Rattle.bits_byte.proofs.Values.{value-le}
use Rattle.unseal_byte.proofs.Pieces.{bit_piece}
use Rattle.unseal_parents.proofs.Spreading.{spread-bit, up_first, up_next, up_done}
use Rattle.unseal_parents.proofs.spread_byte.Goals as goal

pub loop-bit-init : goal.loop-bit-init
loop-bit-init c = up_first _ _ _ _ (omega (arith, bits-length (c.args.x ∷ []) 0 c.args.n)) (omega arith)

pub overflow_add-from : goal.overflow_add-from
overflow_add-from c = omega (arith, value-le _ _ c.bit_of-from.ensures)

pub loop-bit-preserved : goal.loop-bit-preserved
loop-bit-preserved c =
    let a = c.args in
    let l = c.loop-bit in
    let byte = a.x ∷ [] in
    let j = l.bit in
    let most = bits-length byte 0 a.n in
    up_next (bits_from byte 0 a.n) (bit_at byte j ∷ []) a.i a.p a.out.now j 1 (j + 1) (omega arith) (bit_piece byte a.n j (omega arith)) (omega arith) l.out
    l.from l.invariant _ _ (length-set l.out (a.i + j) (get_or l.out l.from 0))
    (spread-bit (bit_at byte j) (a.i + j) l.from l.out _ c.bit_of-from.ensures (omega arith))

pub returns : goal.returns
returns c = up_done _ _ _ _ c.loop-bit.bit _ _ (omega (arith, bits-length (c.args.x ∷ []) 0 c.args.n)) c.loop-bit.invariant
