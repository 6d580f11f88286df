use Rattle.std.proofs.Common.{◌∙◌, rules}
use Rattle.theory.specs.Layout.{AreBytes}
use Rattle.bits_word.proofs.EightBytes.{little_eight}
use Rattle.bits_word.proofs.stored_word.Goals as goal

pub returns : goal.returns
returns c =
    let b = c.args.b.now in
    let are : AreBytes b = λ i l. search rules in
    c.from_le_bytes.ensures ∙ little_eight b are c.args.at
