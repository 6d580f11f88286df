use mathlib.Core.Path.{ap₂, ◌∙◌}
use Prim.Native.Nat.{◌+◌, ◌*◌}
use native.Mathlib.Omega.{arith}
use Rattle.bits_count.proofs.Runs.{no_bits, bits-ones-le}
use Rattle.nav_rank.proofs.Counts.{word_more}
use Rattle.nav_rank.proofs.ones_in_words.Goals as goal

pub loop-i-init : goal.loop-i-init
loop-i-init c = no_bits c.args.b.now (8 * c.args.at)

pub overflow_add-count : goal.overflow_add-count
overflow_add-count c =
    let a = c.args in
    let l = c.loop-i in
    omega (arith, bits-ones-le a.b.now (8 * a.at) (64 * l.i), bits-ones-le a.b.now (8 * (a.at + 8 * l.i)) 64)

pub loop-i-preserved : goal.loop-i-preserved
loop-i-preserved c = ap₂ ◌+◌ c.loop-i.invariant c.ones_in_word-count.ensures ∙ word_more c.args.b.now c.args.at c.loop-i.i
