use mathlib.Core.Path.{◌∙◌, ap}
use Prim.Native.Nat.{◌-◌}
use native.Mathlib.Omega.{arith}
use Rattle.meaning.specs.Bytes.{bit_at, value}
use Rattle.theory.specs.Layout.{bit_place}
use Rattle.image_found.specs.Checked.{layout_in}
use Rattle.nav_strings.proofs.Strings.{ready0}
use Rattle.nav_strings.proofs.Bits.{bit0}
use Rattle.nav_strings.proofs.bit_r0.Goals as goal

pub string_bit-requires : goal.string_bit-requires
string_bit-requires c =
    let b = c.args.b.now in
    let r = ready0 b (layout_in b) c.requires.node.sound in
    record {
      i_bound = omega (arith, c.requires.node.some, c.requires.node.most, r.most);
      bits_block_le_most_block = omega (arith, r.near);
      i_in_bounds = omega (arith, c.requires.node.some, c.requires.node.most, r.room);
    }

pub returns : goal.returns
returns c =
    let b = c.args.b.now in
    let n = c.requires.node in
    bit0 n c.string_bit.result
    (c.string_bit.ensures ∙ ap (λ z. value (bit_at b (bit_place z (c.args.x - 1)))) c.requires.r0_block_value)
