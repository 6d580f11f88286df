use Rattle.bits_byte.proofs.Values.{value-le}
use Rattle.nav_strings.proofs.Bits.{node_in, r0_begins}
use Rattle.nav_children.proofs.Families.{leaf_given}
use Rattle.nav_children.proofs.is_leaf.Goals as goal

pub bit_r0-requires : goal.bit_r0-requires
bit_r0-requires c = let node = c.requires in record { node = node_in node; r0_block_value = r0_begins node }

pub overflow_sub-result : goal.overflow_sub-result
overflow_sub-result c = value-le _ c.bit_r0.result c.bit_r0.ensures

pub returns : goal.returns
returns c = leaf_given c.requires c.bit_r0.result c.bit_r0.ensures
