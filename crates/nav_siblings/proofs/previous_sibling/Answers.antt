use native.Mathlib.Omega.{arith}
use Rattle.nav_strings.proofs.Bits.{node_in}
use Rattle.nav_siblings.proofs.Siblings.{previous_first, previous_none, previous_some}
use Rattle.nav_siblings.proofs.previous_sibling.Goals as goal

pub returns-then-x-eq1 : goal.returns-then-x-eq1
returns-then-x-eq1 c = previous_first c.requires c.if-x-eq1.true

pub bit_r1-requires : goal.bit_r1-requires
bit_r1-requires c =
    let node = c.requires in
    node_in (record { sound = node.sound; some = omega arith; most = omega (arith, node.most) })

pub returns-then-bit_r1-ne0 : goal.returns-then-bit_r1-ne0
returns-then-bit_r1-ne0 c =
    let bit = c.bit_r1 in
    previous_none c.requires (omega arith) bit.result bit.ensures c.if-bit_r1-ne0.true

pub returns : goal.returns
returns c =
    let bit = c.bit_r1 in
    previous_some c.requires (omega arith) bit.result bit.ensures c.if-bit_r1-ne0.false
