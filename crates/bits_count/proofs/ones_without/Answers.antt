use Rattle.bits_count.proofs.Words.{without-ones}
use Rattle.bits_count.proofs.ones_without.Goals as goal

pub returns : goal.returns
returns c =
    without-ones c.args.b.now c.args.at c.args.other c.stored_word-x.result
    c.stored_word.result c.stored_word-x.ensures c.stored_word.ensures
