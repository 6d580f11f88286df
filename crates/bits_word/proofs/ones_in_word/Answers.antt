use mathlib.Core.Path.{ap, ◌∙◌}
use lib.Count as count
use Rattle.bits_word.proofs.EightBytes.{little-ones}
use Rattle.bits_word.proofs.ones_in_word.Goals as goal

pub returns : goal.returns
returns c = ap count.ones c.stored_word.ensures ∙ little-ones c.args.b.now c.args.at 8
