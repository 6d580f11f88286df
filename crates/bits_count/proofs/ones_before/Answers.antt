use Prim.Native.Nat.{◌*◌}
use Rattle.bits_count.proofs.Words.{front-ones}
use Rattle.bits_count.proofs.ones_before.Goals as goal

pub returns : goal.returns
returns c = front-ones c.args.b.now (8 * c.args.at) c.args.n c.whole_word.result c.requires.n_bound c.whole_word.ensures
