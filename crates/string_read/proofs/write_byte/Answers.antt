use native.Mathlib.Omega.{arith}
use Rattle.bits_byte.proofs.Values.{value-le}
use Rattle.string_read.proofs.Writing.{entering_next, entering_last}
use Rattle.string_read.proofs.write_byte.Goals as goal

pub overflow_add-next : goal.overflow_add-next
overflow_add-next c = omega (arith, value-le _ _ c.bit_of-next.ensures)

pub loop-bit-preserved : goal.loop-bit-preserved
loop-bit-preserved c =
    let a = c.args in
    let l = c.loop-bit in
    entering_next a.x a.p a.k a.out.now l.out l.next l.bit _ l.invariant c.loop-bit-test.true c.bit_of-next.ensures (value-le _ _ c.bit_of-next.ensures)

pub returns : goal.returns
returns c =
    let a = c.args in
    let l = c.loop-bit in
    entering_last a.x a.p a.k a.out.now l.out l.next l.bit l.invariant c.loop-bit-test.false
