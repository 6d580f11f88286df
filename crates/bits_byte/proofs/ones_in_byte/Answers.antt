use borrow.Author.Rules.{rules}
use Rattle.bits_byte.proofs.Counting.{byte_ones}
use Rattle.bits_byte.proofs.ones_in_byte.Goals as goal

pub returns : goal.returns
returns c = byte_ones c.args.x (search rules)
