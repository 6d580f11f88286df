use Prim.Native.Nat.{◌+◌, ◌-◌, ◌*◌, ◌/◌, ◌%◌, ◌^◌}
use lib.Bits.{bit_or}
use lib.ListN.{length, get_or, set, length-set}
use mathlib.Core.Path.{refl, ◌∙◌, sym, ap, ap₂}
use native.Mathlib.Omega.{arith}
use Rattle.bits_byte.specs.Lit.{lit}
use Rattle.parents_check.proofs.Rising.{good_parents}
use Rattle.seal_r1.specs.Passes.{byte_place}
use Rattle.seal_r0.proofs.Gapping.{gapping_first, gapping_low, gapping_other, gapping_same, gapping_last}
use Rattle.seal_r0.proofs.write_r0.Goals as goal
use Rattle.seal_r0.proofs.write_r0.Goals.{then-x-c, else-x-c}

pub loop-i-init : goal.loop-i-init
loop-i-init c =
    gapping_first _ _ _ c.requires.in_bounds c.requires.blank

pub overflow_sub-x : goal.overflow_sub-x
overflow_sub-x c =
    let a = c.args in
    let are = good_parents a.ps.now c.requires.in_bounds c.requires.ps_value in
    omega (
      arith,
      (gapping_low a.ps.now a.image.now c.loop-i.image a.zeros c.loop-i.c c.loop-i.byte c.loop-i.i are c.loop-i.invariant c.requires.ps_in_bounds
          c.loop-i-test.true).0,
    )

pub byte_place-to-requires : goal.byte_place-to-requires
byte_place-to-requires c =
    let a = c.args in
    let are = good_parents a.ps.now c.requires.in_bounds c.requires.ps_value in record {
      bits_block_le_most_block = c.requires.zeros_le_most_block;
      c_bound = omega (
        arith,
        (gapping_low a.ps.now a.image.now c.loop-i.image a.zeros c.loop-i.c c.loop-i.byte c.loop-i.i are c.loop-i.invariant c.requires.ps_in_bounds
            c.loop-i-test.true).1,
      );
    }

pub bounds-image-to : goal.bounds-image-to
bounds-image-to c =
    let a = c.args in
    let are = good_parents a.ps.now c.requires.in_bounds c.requires.ps_value in
    omega (
      arith,
      length-set c.loop-i.image c.byte_place-at.result c.loop-i.byte,
      c.byte_place-to.ensures,
      (gapping_low a.ps.now a.image.now c.loop-i.image a.zeros c.loop-i.c c.loop-i.byte c.loop-i.i are c.loop-i.invariant c.requires.ps_in_bounds
          c.loop-i-test.true).1,
      c.loop-i.invariant.kept,
      c.requires.ps_in_bounds,
    )

pub loop-i-preserved : goal.loop-i-preserved
loop-i-preserved c =
    let a = c.args in
    let are = good_parents a.ps.now c.requires.in_bounds c.requires.ps_value in
    let x = get_or a.ps.now c.loop-i.i 0 - 1 in
    elim c.if-x-c.branch [
      | then-x-c w ↦
          gapping_other a.ps.now a.image.now c.loop-i.image a.zeros c.loop-i.c c.loop-i.byte c.loop-i.i are c.loop-i.invariant c.requires.ps_in_bounds x
          c.loop-i-test.true refl _ _ _
          (w.image-is ∙ ap (λ p. set c.loop-i.image p c.loop-i.byte) w.byte_place-at.ensures) w.c-is
          (ap (λ y. bit_or y (128 / 2 ^ (x % 8)))
          (w.byte-is ∙ ap₂ (λ s p. get_or s p 0) (sym w.image-is) (w.byte_place-to.ensures ∙ ap (λ j. byte_place a.zeros j) (sym w.c-is))))
      | else-x-c w ↦
          gapping_same a.ps.now a.image.now c.loop-i.image a.zeros c.loop-i.c c.loop-i.byte c.loop-i.i are c.loop-i.invariant c.requires.ps_in_bounds x
          c.loop-i-test.true refl _ _ _ w.if-x-c.false w.image-is w.c-is
          (ap (λ y. bit_or y (128 / 2 ^ (x % 8))) w.byte-is)
    ]

pub returns : goal.returns
returns c =
    let a = c.args in
    let are = good_parents a.ps.now c.requires.in_bounds c.requires.ps_value in
    gapping_last a.ps.now a.image.now c.loop-i.image a.zeros c.loop-i.c c.loop-i.byte c.loop-i.i are c.loop-i.invariant c.requires.ps_in_bounds
    c.loop-i-test.false _ _
    (ap (λ p. set c.loop-i.image p c.loop-i.byte) c.byte_place-at-2.ensures)
    (c.set_bit.ensures ∙ ap (λ p. lit (set c.loop-i.image c.byte_place-at-2.result c.loop-i.byte) (8 * p + length a.ps.now % 4000)) c.bits_at.ensures)
