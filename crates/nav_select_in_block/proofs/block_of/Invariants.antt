use Prim.Native.Nat.{◌*◌, ◌<◌}
use Rattle.image_string.specs.Parts.{ones_to}
use Rattle.nav_select_in_block.proofs.block_of.Given as goal

abbrev pub invariant-loop-i : goal.invariant-loop-i
invariant-loop-i l = ones_to l.b l.bits_block (4000 * l.i) < l.k
