use mathlib.Core.Path.{ap, ◌∙◌}
use Rattle.meaning.specs.Answers.{answer_of}
use Rattle.theory.proofs.Settled.{answered}
use Rattle.call_image_with_metres.proofs.Lengths.{one_for_each, metres-refused, metres-given}
use Rattle.call_image_with_metres.proofs.try_image_with_metres.Goals as goal

pub returns-then-metres-parents : goal.returns-then-metres-parents
returns-then-metres-parents c =
    let a = c.args in
    answered (ap answer_of c.refuse.ensures) (metres-refused a.parents.now a.metres.now a.image.now c.if-metres-parents.true)

pub seal_parents-requires : goal.seal_parents-requires
seal_parents-requires c =
    let a = c.args in
    one_for_each a.metres.now a.parents.now c.if-metres-parents.false

pub returns : goal.returns
returns c =
    let a = c.args in
    c.seal_parents.ensures ∙ metres-given a.parents.now a.metres.now a.image.now c.if-metres-parents.false
