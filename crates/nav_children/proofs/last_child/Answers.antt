use native.Mathlib.Omega.{arith}
use Prim.Native.Nat.{◌+◌}
use Rattle.nav_strings.proofs.Bits.{node_in, r0_begins}
use Rattle.nav_sibling_range.proofs.Own.{small_before}
use Rattle.nav_children.proofs.Families.{last_none, has_child, last_some}
use Rattle.nav_children.proofs.last_child.Goals as goal

pub bit_r0-requires : goal.bit_r0-requires
bit_r0-requires c = let node = c.requires in record { node = node_in node; r0_block_value = r0_begins node }

pub returns-then-bit_r0-eq0 : goal.returns-then-bit_r0-eq0
returns-then-bit_r0-eq0 c = last_none c.requires c.bit_r0.result c.bit_r0.ensures c.if-bit_r0-eq0.true

pub overflow_cast-result : goal.overflow_cast-result
overflow_cast-result c =
    let a = c.args in
    omega (arith, small_before a.b.now a.image c.requires.sound (a.x + 1))

pub returns : goal.returns
returns c =
    let node = c.requires in
    let bit = c.bit_r0 in
    last_some node (has_child node bit.result bit.ensures c.if-bit_r0-eq0.false) c.ones_before_zero.result c.ones_before_zero.ensures
