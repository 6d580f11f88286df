use mathlib.Core.Path.{◌≡◌}
use native.Mathlib.Omega.{arith}
use Rattle.meaning.specs.Bytes.{value}
use Rattle.theory.specs.ByStrings.{bit_of}
use Rattle.theory.specs.Stages.{read_r0}
use Rattle.nav_strings.proofs.Bits.{node_in, r0_begins}
use Rattle.nav_children.proofs.Families.{degree-none, has_child, above, small, degree-some}
use Rattle.nav_children.proofs.degree_of.Goals as goal
use Rattle.nav_children.proofs.degree_of.Goals.{Else-bit_r0-eq0}

-- the node has a child
one : (c : goal.Else-bit_r0-eq0) → let a = c.args in value (bit_of (read_r0 a.b.now) a.x) ≡ 1
one c = has_child c.requires c.bit_r0.result c.bit_r0.ensures c.if-bit_r0-eq0.false

pub bit_r0-requires : goal.bit_r0-requires
bit_r0-requires c = let node = c.requires in record { node = node_in node; r0_block_value = r0_begins node }

pub returns-then-bit_r0-eq0 : goal.returns-then-bit_r0-eq0
returns-then-bit_r0-eq0 c = degree-none c.requires c.bit_r0.result c.bit_r0.ensures c.if-bit_r0-eq0.true

pub children_of-children-requires : goal.children_of-children-requires
children_of-children-requires c = record { node = c.requires; x_value = one (goal.at.children_of-children-requires c).Else-bit_r0-eq0 }

pub overflow_sub-result : goal.overflow_sub-result
overflow_sub-result c =
    let r = c.children_of-children in
    omega (arith, above c.requires (one (goal.at.overflow_sub-result c).Else-bit_r0-eq0) r.result r.ensures)

pub overflow_cast-result : goal.overflow_cast-result
overflow_cast-result c =
    let r = c.children_of-children in
    omega (arith, (small c.requires (one (goal.at.overflow_cast-result c).Else-bit_r0-eq0) r.result r.ensures).1)

pub returns : goal.returns
returns c =
    let r = c.children_of-children in
    degree-some c.requires (one (goal.at.returns c).Else-bit_r0-eq0) r.result r.ensures
