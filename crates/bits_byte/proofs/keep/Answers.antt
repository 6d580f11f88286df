use borrow.Author.Rules.{rules}
use Rattle.bits_byte.proofs.Byte.{kept}
use Rattle.bits_byte.proofs.keep.Goals as goal

pub returns : goal.returns
returns c = kept c.args.x c.args.n (search rules) (search rules)
