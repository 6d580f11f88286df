use native.Mathlib.Omega.{arith}
use Rattle.image_found.specs.Checked.{layout_in}
use Rattle.nav_strings.proofs.Strings.{ready1}
use Rattle.nav_strings.proofs.Bits.{bit1}
use Rattle.nav_strings.proofs.bit_r1.Goals as goal

pub string_bit-requires : goal.string_bit-requires
string_bit-requires c =
    let b = c.args.b.now in
    let n = c.requires in
    let r = ready1 b (layout_in b) n.sound in
    record { i_bound = omega (arith, n.some, n.most, r.most); bits_block_le_most_block = omega arith; i_in_bounds = omega (arith, n.some, n.most, r.room) }

pub returns : goal.returns
returns c = bit1 c.requires c.string_bit.result c.string_bit.ensures
