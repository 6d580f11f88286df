use mathlib.Core.Path.{◌≡◌, ap, ◌∙◌}
use native.Mathlib.Omega.{arith}
use Rattle.meaning.specs.Bytes.{value}
use Rattle.theory.specs.ByStrings.{bit_of, within}
use Rattle.theory.specs.Stages.{read_r0}
use Rattle.ask_argument.proofs.Passed.{moved_passed}
use Rattle.nav_strings.proofs.Bits.{node_in, r0_begins}
use Rattle.nav_children.proofs.Families.{child_none, has_child, small, child_some}
use Rattle.nav_children.proofs.child_number.Goals as goal
use Rattle.nav_children.proofs.child_number.Goals.{Else-bit_r0-eq0}

-- the node has a child
one : (c : goal.Else-bit_r0-eq0) → let a = c.args in value (bit_of (read_r0 a.b.now) a.x) ≡ 1
one c = has_child c.requires c.bit_r0.result c.bit_r0.ensures c.if-bit_r0-eq0.false

pub bit_r0-requires : goal.bit_r0-requires
bit_r0-requires c = let node = c.requires in record { node = node_in node; r0_block_value = r0_begins node }

pub returns-then-bit_r0-eq0 : goal.returns-then-bit_r0-eq0
returns-then-bit_r0-eq0 c =
    child_none c.requires c.bit_r0.result c.bit_r0.ensures c.if-bit_r0-eq0.true c.args.z

pub children_of-children-requires : goal.children_of-children-requires
children_of-children-requires c = record { node = c.requires; x_value = one (goal.at.children_of-children-requires c).Else-bit_r0-eq0 }

pub shifted-requires : goal.shifted-requires
shifted-requires c =
    let r = c.children_of-children in
    omega (arith, (small c.requires (one (goal.at.shifted-requires c).Else-bit_r0-eq0) r.result r.ensures).0)

pub overflow_cast-result : goal.overflow_cast-result
overflow_cast-result c =
    let r = c.children_of-children in
    omega (arith, (small c.requires (one (goal.at.overflow_cast-result c).Else-bit_r0-eq0) r.result r.ensures).1, c.in_range.ensures.1)

pub returns : goal.returns
returns c =
    let r = c.children_of-children in
    child_some c.requires (one (goal.at.returns c).Else-bit_r0-eq0) r.result r.ensures c.in_range.result c.args.z
    (c.in_range.ensures.0 ∙ ap (within r.result.after r.result.last) (c.shifted.ensures ∙ moved_passed r.result.after c.args.z c.ranges.z))
