use native.Mathlib.Omega.{arith}
use Rattle.nav_strings.proofs.Bits.{node_in, r0_begins}
use Rattle.nav_sibling_range.proofs.Own.{small_before}
use Rattle.nav_children.proofs.Families.{first-none, has_child, first_some}
use Rattle.nav_children.proofs.first_child.Goals as goal

pub bit_r0-requires : goal.bit_r0-requires
bit_r0-requires c = let node = c.requires in record { node = node_in node; r0_block_value = r0_begins node }

pub returns-then-bit_r0-eq0 : goal.returns-then-bit_r0-eq0
returns-then-bit_r0-eq0 c = first-none c.requires c.bit_r0.result c.bit_r0.ensures c.if-bit_r0-eq0.true

pub overflow_cast-result : goal.overflow_cast-result
overflow_cast-result c =
    let a = c.args in
    omega (arith, small_before a.b.now a.image c.requires.sound a.x)

pub overflow_add-result : goal.overflow_add-result
overflow_add-result c =
    let a = c.args in
    omega (arith, small_before a.b.now a.image c.requires.sound a.x)

pub returns : goal.returns
returns c =
    let node = c.requires in
    let bit = c.bit_r0 in
    first_some node (has_child node bit.result bit.ensures c.if-bit_r0-eq0.false) c.ones_before_zero.result c.ones_before_zero.ensures
