use mathlib.Core.Path.{◌≡◌, ap, ◌∙◌}
use Prim.Native.Nat.{◌+◌, ◌*◌}
use Rattle.theory.specs.Stages.{word_blocks, metres_block}
use Rattle.image_layout.specs.Layout.{metres_at}
use native.Mathlib.Omega.{arith}
use Rattle.image_layout.proofs.Laying.{laid_out, held_most}
use Rattle.image_layout.proofs.layout_of.Goals as goal

pub list_blocks-requires : goal.list_blocks-requires
list_blocks-requires c =
    let a = c.args in
    omega (arith, c.metres_held.ensures, held_most a.version a.n)

pub overflow_cast-result-6 : goal.overflow_cast-result-6
overflow_cast-result-6 c =
    let a = c.args in
    omega (arith, c.list_blocks.ensures, c.metres_held.ensures, held_most a.version a.n)

pub returns : goal.returns
returns c =
    let a = c.args in
    let after : 1 + c.string_blocks-r0_block.result + c.string_blocks.result + 2 * c.sample_blocks-each.result ≡ metres_block a.n a.m = omega arith in
    laid_out a.version _ _ _ _ _ _ _ (omega arith) (omega arith) (omega arith) (c.metres_at.ensures ∙ ap (metres_at a.version) after)
    (omega (arith, c.list_blocks.ensures, ap word_blocks c.metres_held.ensures))
