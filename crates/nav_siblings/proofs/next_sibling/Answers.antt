use native.Mathlib.Omega.{arith}
use Rattle.nav_strings.proofs.Bits.{node_in}
use Rattle.nav_sibling_range.proofs.Own.{strings}
use Rattle.nav_siblings.proofs.Siblings.{next-none, next-some}
use Rattle.nav_siblings.proofs.next_sibling.Goals as goal

pub bit_r1-requires : goal.bit_r1-requires
bit_r1-requires c = node_in c.requires

pub returns-then-bit_r1-ne0 : goal.returns-then-bit_r1-ne0
returns-then-bit_r1-ne0 c = next-none c.requires c.bit_r1.result c.bit_r1.ensures c.if-bit_r1-ne0.true

pub overflow_add-result : goal.overflow_add-result
overflow_add-result c =
    omega (arith, (strings c.args.b.now c.args.image c.requires.sound).most)

pub returns : goal.returns
returns c = next-some c.requires c.bit_r1.result c.bit_r1.ensures c.if-bit_r1-ne0.false
