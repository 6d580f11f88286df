use mathlib.Core.Path.{ap₂}
use Prim.Native.Nat.{◌*◌}
use Rattle.bits_count.proofs.Words.{ending_ones}
use Rattle.bits_count.proofs.ones_ending.Goals as goal

pub returns : goal.returns
returns c =
    let e =
    ending_ones c.args.b.now (8 * c.args.at) c.args.p c.whole_word.result c.requires.p_bound
    c.whole_word.ensures in
    ap₂ ◌*◌ e.1 e.2
